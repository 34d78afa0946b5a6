use Rattle.std.proofs.Common.{length}
use Rattle.instruction_types.proofs.Dots.{Passed}
use Rattle.instruction_types.proofs.members.behind_dots.Given as goal

abbrev pub invariant-loop-after : goal.invariant-loop-after
invariant-loop-after l = Passed l.text l.rest

abbrev pub decreases-loop-after : goal.decreases-loop-after
decreases-loop-after l = length l.rest
