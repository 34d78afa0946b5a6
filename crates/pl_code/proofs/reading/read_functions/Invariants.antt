use Rattle.std.proofs.Common.{length}
use Rattle.pl_code.proofs.Steps.{ReadsTo}
use Rattle.pl_code.proofs.reading.read_functions.Given as goal

abbrev pub invariant-loop-line : goal.invariant-loop-line
invariant-loop-line l = ReadsTo l.initial.reading l.text l.reading l.rest l.before

abbrev pub decreases-loop-line : goal.decreases-loop-line
decreases-loop-line l = length l.rest
