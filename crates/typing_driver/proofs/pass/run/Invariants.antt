use Rattle.std.proofs.Common.{◌≡◌}
use Rattle.typing_worklist.specs.Machine.{run}
use Rattle.typing_worklist.specs.Weights.{weights}
use Rattle.typing_driver.proofs.pass.run.Given as goal

-- what is left comes to what the whole comes to
abbrev pub invariant-loop-item : goal.invariant-loop-item
invariant-loop-item l = run l.fn.allow l.fn.headers l.fn.worklist l.fn.config ≡ run l.fn.allow l.fn.headers l.worklist l.config

-- and weighs less
abbrev pub decreases-loop-item : goal.decreases-loop-item
decreases-loop-item l = weights l.worklist
