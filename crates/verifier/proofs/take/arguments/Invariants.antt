use Rattle.std.proofs.Common.{◌-◌, length, take}
use Rattle.instruction_types.specs.Members.{argument_kinds}
use Rattle.verifier.proofs.Takings.{SoFar}
use Rattle.verifier.proofs.take.arguments.Given as goal

abbrev pub invariant-loop-done : goal.invariant-loop-done
invariant-loop-done l = SoFar (argument_kinds l.params) (argument_kinds (take (length l.params - l.done) l.params)) l.initial.table l.table
