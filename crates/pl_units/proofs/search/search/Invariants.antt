-- No place before this one is one of a match, and what is known to match here does.
use Rattle.std.proofs.Common.{ℕ, ◌-◌, ◌<◌, ◌≤◌, length}
use Rattle.pl_units.specs.Periods.{unit_of, Agree, Matches}
use Rattle.pl_units.proofs.search.search.Given as goal

abbrev pub invariant-loop-place : goal.invariant-loop-place
invariant-loop-place l = record {
  from_there : l.from ≤ l.place;
  in_part : l.known ≤ length l.part;
  agree : Agree (unit_of l.direction l.part) (unit_of l.direction l.text) l.place l.known;
  none : (earlier : ℕ) → l.from ≤ earlier → earlier < l.place → ¬ Matches l.direction l.text l.part earlier;
}

abbrev pub decreases-loop-place : goal.decreases-loop-place
decreases-loop-place l = l.places - l.place
