-- A number whose flag is set is that of a member of the list.
use Rattle.std.proofs.Common.{◌≡◌, ℕ, zero, suc, ◌<◌, Bool, true, false, List, [], ◌∷◌, length, arith}
use Rattle.std.specs.Prelude.{slice_index_or}

pub listed_within : (flags : List Bool) (number : ℕ) → slice_index_or flags number false ≡ true → number < length flags
listed_within [] number h = cc
listed_within (x ∷ flags) zero h = omega arith
listed_within (x ∷ flags) (suc number) h = omega (arith, listed_within flags number h)
