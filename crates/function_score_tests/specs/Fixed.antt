-- What filters and scripts give whose answers are fixed.
use Rattle.std.specs.Prelude.{ℕ, ℤ, pos, negsuc, Bool, false, List, Result, Ok, Err, slice_get, unwrap_or}

abbrev pub matches_in : List Bool → ℕ → Result Bool ℤ
matches_in answers number = Ok (unwrap_or (slice_get answers number) false)

-- a number below 0 ends the line
abbrev pub from_zero : ℤ → Result ℕ ℤ
from_zero (pos n) = Ok n
from_zero (negsuc n) = Err (negsuc n)

abbrev pub gives_in : List ℤ → ℕ → Result ℕ ℤ
gives_in answers number = from_zero (unwrap_or (slice_get answers number) (pos 0))
