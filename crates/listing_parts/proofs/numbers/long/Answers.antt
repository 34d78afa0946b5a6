use Rattle.std.proofs.Common.{◌^◌, Some, sym, ap, subst, ◌∙◌, lit≤, w64}
use Rattle.std.specs.Prelude.{FitsSigned}
use Rattle.std.proofs.lemmas.Int.{to_z-of_z}
use Rattle.std.proofs.lemmas.Bool.{cond-true, cond-false}
use Rattle.listing_parts.proofs.NumberForms.{integer_unread, integer_read}
use Rattle.listing_parts.proofs.numbers.long.Goals as goal

pub returns-in_default : goal.returns-in_default
returns-in_default c = integer_unread w64 (2 ^ 63) _ c.in_default.field-0 (lit≤ tt) (λ z l. record { sfits = l }) c.in_default.ensures.value.0

pub returns-then-is_long : goal.returns-then-is_long
returns-then-is_long c =
    let parsed = c.in-Ok.ensures.value.0 in
    let fits = subst (FitsSigned w64) (sym parsed.1) parsed.0.1 in
    ap Some (to_z-of_z w64 c.in-Ok.number fits)
    ∙ sym (cond-true _ _ _ c.if-is_long.true) ∙ integer_read w64 (2 ^ 63) _ c.in-Ok.number (lit≤ tt) (λ z l. record { sfits = l }) (λ f. f.sfits) parsed _ _ (to_z-of_z w64 _ fits) c.is_long.ensures

pub returns-else-is_long : goal.returns-else-is_long
returns-else-is_long c =
    let parsed = c.in-Ok.ensures.value.0 in
    let fits = subst (FitsSigned w64) (sym parsed.1) parsed.0.1 in
    sym (cond-false _ _ _ c.if-is_long.false) ∙ integer_read w64 (2 ^ 63) _ c.in-Ok.number (lit≤ tt) (λ z l. record { sfits = l }) (λ f. f.sfits) parsed _ _ (to_z-of_z w64 _ fits) c.is_long.ensures
