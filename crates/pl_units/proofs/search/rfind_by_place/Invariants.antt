-- The part stands at no place from the loop's end on.
use Rattle.std.proofs.Common.{ℕ, ◌≤◌}
use Rattle.pl_units.specs.Places.{StandsAt}
use Rattle.pl_units.proofs.search.rfind_by_place.Given as goal

abbrev pub invariant-loop-place : goal.invariant-loop-place
invariant-loop-place l = (k : ℕ) → l.place ≤ k → ¬ StandsAt l.text l.part k
