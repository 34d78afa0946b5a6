use Rattle.std.proofs.Common.{refl, arith}
use Rattle.codegen.specs.Worklist.{items_of}
use Rattle.codegen.proofs.Handled.{tried_plan}
use Rattle.codegen.proofs.Steps.{instead}
use Rattle.codegen.proofs.tries.tried.Goals as goal

pub returns-clause-back : goal.returns-clause-back
returns-clause-back c = rw c.in_ok-push.ensures (tried_plan _ (items_of c.args.worklist.now) c.args.config.now c.args.exits _ _ c.in_ok-to.to _ c.in_ok-to.ensures.number)

pub returns-clause-sound : goal.returns-clause-sound
returns-clause-sound c = rw c.in_ok-push.ensures (instead _ _ _ _ (λ allow of s. s) refl)

pub returns-clause-falls : goal.returns-clause-falls
returns-clause-falls c = rw c.in_ok-push.ensures (omega arith)
