use Rattle.std.proofs.Common.{refl, arith}
use Rattle.codegen.specs.Worklist.{items_of}
use Rattle.codegen.proofs.Bodies.{then_plan}
use Rattle.codegen.proofs.Steps.{instead}
use Rattle.codegen.proofs.scopes.last.Goals as goal

pub returns-clause-back : goal.returns-clause-back
returns-clause-back c = rw c.in_ok-push_three.ensures (then_plan _ (items_of c.args.worklist.now) c.args.config.now c.args.exits _ _)

pub returns-clause-sound : goal.returns-clause-sound
returns-clause-sound c = rw c.in_ok-push_three.ensures (instead _ _ _ _ (λ allow of s. (s.0.0, (s.0.1, s.1))) refl)

pub returns-clause-falls : goal.returns-clause-falls
returns-clause-falls c = rw c.in_ok-push_three.ensures (omega arith)
