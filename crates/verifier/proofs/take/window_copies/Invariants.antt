use Rattle.std.proofs.Common.{◌-◌, ◌*◌}
use Rattle.std.specs.Prelude.{replicate}
use Rattle.verifier.proofs.Takings.{SoFar}
use Rattle.verifier.proofs.take.window_copies.Given as goal

abbrev pub invariant-loop-done : goal.invariant-loop-done
invariant-loop-done l = SoFar (replicate (31 * l.windows) l.fn.kind) (replicate (31 * l.windows - 31 * l.done) l.fn.kind) l.initial.table l.table
