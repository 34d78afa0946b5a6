-- Steps of loops over lists.
use Rattle.std.proofs.Common.{◌≡◌, ℕ, ◌+◌, ◌<◌, Some, List, ◌∷◌, length, drop, get_or, slice_get, refl, add-one, drop-cons}
use Rattle.std.proofs.lemmas.Option.{slice_get_within, get_or_from_slice_get}

-- from a place on there is the item at the place, and what is behind it
pub got : {A : Type 0} → (xs : List A) (at : ℕ) (x : A) → slice_get xs at ≡ Some x → drop at xs ≡ x ∷ drop (at + 1) xs
got xs at x h =
    let within : at < length xs = slice_get_within xs at x h in
    let item : get_or xs at x ≡ x = get_or_from_slice_get xs at x x h in
    rw (add-one, drop-cons xs at x within, item) refl
