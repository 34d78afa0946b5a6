-- The bytes below 32 and their digits.
use Rattle.std.proofs.Common.{◌≡◌, ℕ, ◌/◌, ◌%◌, ◌<◌, Some, refl, below_more}
use borrow.Author.Count.{below_none}
use Rattle.listing_parts.specs.Quoted.{hex_digit, control_of}

abbrev control_is : ℕ → Type 0
control_is b = control_of (hex_digit (b / 16)) (hex_digit (b % 16)) ≡ Some b

pub control_back : (b : ℕ) → b < 32 → control_of (hex_digit (b / 16)) (hex_digit (b % 16)) ≡ Some b
unfolding control_of
control_back = (below_more control_is 31 (below_more control_is 30 (below_more control_is 29 (below_more control_is 28 (below_more control_is 27 (below_more control_is 26 (below_more control_is 25 (below_more control_is 24 (below_more control_is 23 (below_more control_is 22 (below_more control_is 21 (below_more control_is 20 (below_more control_is 19 (below_more control_is 18 (below_more control_is 17 (below_more control_is 16 (below_more control_is 15 (below_more control_is 14 (below_more control_is 13 (below_more control_is 12 (below_more control_is 11 (below_more control_is 10 (below_more control_is 9 (below_more control_is 8 (below_more control_is 7 (below_more control_is 6 (below_more control_is 5 (below_more control_is 4 (below_more control_is 3 (below_more control_is 2 (below_more control_is 1 (below_more control_is 0 (below_none control_is) refl) refl) refl) refl) refl) refl) refl) refl) refl) refl) refl) refl) refl) refl) refl) refl) refl) refl) refl) refl) refl) refl) refl) refl) refl) refl) refl) refl) refl) refl) refl) refl)
