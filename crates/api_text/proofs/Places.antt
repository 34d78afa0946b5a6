-- Where a first place is.
use Rattle.std.proofs.Common.{◌≡◌, ℕ, zero, suc, ◌+◌, ◌≤◌, Bool, true, false, ◌&&◌, List, length, take, drop, refl, if◌then◌else◌}
use Rattle.std.specs.Prelude.{Option, Some, nat_le}
use Rattle.std.specs.List.{find, range_with_len}
use Rattle.std.proofs.lemmas.Bool.{leb-true, and_parts}
use Rattle.std.proofs.lemmas.Slice.Eq.{bytes_eq-Decides}
use Rattle.pl_units.specs.Places.{first_place, stands_at}

first_passes : (p : ℕ → Bool) (a k : ℕ) (rest : Option ℕ) (test : Bool) → p a ≡ test → (Some k ≡ rest → p k ≡ true) → Some k ≡ (if test then Some a else rest) → p k ≡ true
first_passes p a k rest true e later h = let same : k ≡ a = cc in cc
first_passes p a k rest false e later h = later h

-- what is found in a range passes the test
found_passes : (p : ℕ → Bool) (n a k : ℕ) → Some k ≡ find p (range_with_len a n) → p k ≡ true
found_passes p zero a k h = cc
found_passes p (suc n) a k h = first_passes p a k (find p (range_with_len (a + 1) n)) (p a) refl (found_passes p n (a + 1) k) h

-- the part ends within the text
pub first_place_within : (text part : List ℕ) (start place : ℕ) → Some place ≡ first_place text part start → place + length part ≤ length text
unfolding first_place
first_place_within text part start place h =
    let passes = found_passes (λ place. nat_le start place && stands_at text part place) (suc (length text)) 0 place h in
    leb-true _ _ (and_parts _ _ (and_parts _ _ passes).1).0

-- the part stands there
pub first_place_stands : (text part : List ℕ) (start place : ℕ) → Some place ≡ first_place text part start → take (length part) (drop place text) ≡ part
unfolding first_place
first_place_stands text part start place h =
    let passes = found_passes (λ place. nat_le start place && stands_at text part place) (suc (length text)) 0 place h in
    (bytes_eq-Decides (take (length part) (drop place text)) part).0 (and_parts _ _ (and_parts _ _ passes).1).1
