use Rattle.std.proofs.Common.{◌-◌}
use Rattle.std.specs.Prelude.{replicate}
use Rattle.verifier.proofs.Takings.{SoFar}
use Rattle.verifier.proofs.take.few_copies.Given as goal

abbrev pub invariant-loop-done : goal.invariant-loop-done
invariant-loop-done l = SoFar (replicate l.number l.kind) (replicate (l.number - l.done) l.kind) l.initial.table l.table
