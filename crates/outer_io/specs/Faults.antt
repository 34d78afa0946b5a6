-- Counts of faults: when one rises.
use Rattle.std.specs.Prelude.{◌≡◌, ℕ, ◌+◌, ◌-◌, ◌^◌, min, Result, Err}

-- A count behind one more. It stands still at its last value.
abbrev pub next_count : ℕ → ℕ
next_count count = min (count + 1) (2 ^ 64 - 1)

-- The count of faults rose by one in a call that answered this error, and in every other it stands where it stood.
pub record HasCause {T E : Type 0} (error : E) (before now : ℕ) (result : Result T E) : Type 0 where
  pub rose : result ≡ Err error → now ≡ next_count before
  pub quiet : (result ≡ Err error → ⊥) → now ≡ before
