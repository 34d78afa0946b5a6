-- The order of texts, from one place to the next.
use Rattle.std.proofs.Common.{◌≡◌, ℕ, zero, suc, ◌+◌, ◌-◌, ◌<◌, ◌==◌, Bool, true, false, if◌then◌else◌, Option, Some, None, List, [], ◌∷◌, ◌∙◌, length, drop, get_or, slice_get, refl, ap, sym, add-one, drop-cons, ℤ}
use Rattle.std.proofs.lemmas.List.{length-drop}
use Rattle.std.proofs.lemmas.Option.{slice_get_within, get_or_from_slice_get, slice_get-get_or}
use Rattle.number_ops.specs.Order.{text_order, differs, difference, length_as_int}

got : (xs : List ℕ) (at x : ℕ) → slice_get xs at ≡ Some x → drop at xs ≡ x ∷ drop (at + 1) xs
got xs at x h =
    let within : at < length xs = slice_get_within xs at x h in
    let item : get_or xs at x ≡ x = get_or_from_slice_get xs at x x h in
    rw (add-one, drop-cons xs at x within, item) refl

ended : (xs : List ℕ) (at : ℕ) → slice_get xs at ≡ None → drop at xs ≡ []
ended [] zero h = refl
ended [] (suc at) h = refl
ended (x ∷ xs) zero h = cc
ended (x ∷ xs) (suc at) h = ended xs at h

there : (xs : List ℕ) (at : ℕ) → at < length xs → slice_get xs at ≡ None → ⊥
there xs at h n = let some = slice_get-get_or xs at 0 h in cc

turned : (same : Bool) (more units : ℤ) → (if same then more else units) ≡ (if (if same then false else true) then units else more)
turned true more units = refl
turned false more units = refl

pub order_step : (a b : List ℕ) (at : ℕ) (x y : Option ℕ) → slice_get a at ≡ x → slice_get b at ≡ y → at < length a
    → text_order (drop at a) (drop at b) ≡ (if differs x y then difference x y (length a - at) (length b - at) else text_order (drop (at + 1) a) (drop (at + 1) b))
order_step a b at None y h k l = absurd (there a at l h)
order_step a b at (Some x) None h k l =
    rw (got a at x h, ended b at k) (ap length_as_int (ap length (sym (got a at x h)) ∙ length-drop at a))
order_step a b at (Some x) (Some y) h k l = rw (got a at x h, got b at y k) (turned (x == y) _ _)

pub taken : (test : Bool) (a b : ℤ) → test ≡ true → (if test then a else b) ≡ a
taken test a b h = rw h refl

pub passed : (test : Bool) (a b : ℤ) → test ≡ false → (if test then a else b) ≡ b
passed test a b h = rw h refl
