-- The part stands at no place from `from` up to this one.
use Rattle.std.proofs.Common.{ℕ, ◌<◌, ◌≤◌}
use Rattle.pl_units.specs.Places.{StandsAt}
use Rattle.pl_units.proofs.search.find_by_place.Given as goal

abbrev pub invariant-loop-place : goal.invariant-loop-place
invariant-loop-place l = (k : ℕ) → l.from ≤ k → k < l.place → ¬ StandsAt l.text l.part k
