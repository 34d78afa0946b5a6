use Rattle.std.proofs.Common.{◌≡◌, ◌<◌, ◌^◌, Some, sym, ap, subst, ◌∙◌, arith, lit≤, w64, w32}
use Rattle.std.specs.Prelude.{FitsSigned}
use Rattle.std.specs.Int.Signed.{mag}
use Rattle.std.proofs.lemmas.Int.{to_z-of_z}
use Rattle.std.proofs.lemmas.Bool.{cond-true, cond-false}
use Rattle.listing_parts.proofs.NumberForms.{integer_unread, integer_read}
use Rattle.listing_parts.proofs.numbers.int.Goals as goal

pub returns-in_default : goal.returns-in_default
returns-in_default c = integer_unread w32 (2 ^ 31) _ c.in_default.field-0 (lit≤ tt) (λ z l. record { sfits = l }) c.in_default.ensures.value.0

pub returns-then-is_long : goal.returns-then-is_long
returns-then-is_long c =
    let parsed = c.in-Ok.ensures.value.0 in
    let fits = subst (FitsSigned w32) (sym parsed.1) parsed.0.1 in
    let same : c.from.result ≡ c.in-Ok.number = c.from.ensures ∙ to_z-of_z w32 _ fits in
    let wide : FitsSigned w64 c.from.result = record { sfits = subst (λ z. mag z < 2 ^ 63) (sym same) (omega (arith, fits.sfits)) } in
    ap Some (to_z-of_z w32 c.in-Ok.number fits)
    ∙ sym (cond-true _ _ _ c.if-is_long.true) ∙ integer_read w32 (2 ^ 31) _ c.in-Ok.number (lit≤ tt) (λ z l. record { sfits = l }) (λ f. f.sfits) parsed _ _ (to_z-of_z w64 _ wide ∙ same) c.is_long.ensures

pub returns-else-is_long : goal.returns-else-is_long
returns-else-is_long c =
    let parsed = c.in-Ok.ensures.value.0 in
    let fits = subst (FitsSigned w32) (sym parsed.1) parsed.0.1 in
    let same : c.from.result ≡ c.in-Ok.number = c.from.ensures ∙ to_z-of_z w32 _ fits in
    let wide : FitsSigned w64 c.from.result = record { sfits = subst (λ z. mag z < 2 ^ 63) (sym same) (omega (arith, fits.sfits)) } in
    sym (cond-false _ _ _ c.if-is_long.false) ∙ integer_read w32 (2 ^ 31) _ c.in-Ok.number (lit≤ tt) (λ z l. record { sfits = l }) (λ f. f.sfits) parsed _ _ (to_z-of_z w64 _ wide ∙ same) c.is_long.ensures
