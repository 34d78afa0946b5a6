-- The units so far are those of the text.
use Rattle.pl_units.specs.Periods.{unit_of, Agree}
use Rattle.pl_units.proofs.direction.matched.Given as goal

abbrev pub invariant-loop-number : goal.invariant-loop-number
invariant-loop-number l = Agree (unit_of l.direction l.part) (unit_of l.direction l.text) l.place l.number
