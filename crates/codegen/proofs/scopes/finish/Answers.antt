use Rattle.std.proofs.Common.{refl, arith}
use Rattle.codegen.specs.Worklist.{items_of}
use Rattle.codegen.proofs.Flowing.{finish_plan}
use Rattle.codegen.proofs.Steps.{instead}
use Rattle.codegen.proofs.scopes.finish.Goals as goal

pub returns-clause-back : goal.returns-clause-back
returns-clause-back c = rw c.in_ok-push.ensures (finish_plan _ (items_of c.args.worklist.now) c.args.config.now c.args.exits)

pub returns-clause-sound : goal.returns-clause-sound
returns-clause-sound c = rw c.in_ok-push.ensures (instead _ _ _ _ (λ allow of s. s.1) refl)

pub returns-clause-falls : goal.returns-clause-falls
returns-clause-falls c = rw c.in_ok-push.ensures (omega arith)
