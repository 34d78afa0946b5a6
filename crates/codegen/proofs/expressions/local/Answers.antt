use Rattle.codegen.specs.Worklist.{items_of}
use Rattle.codegen.proofs.Plans.{local_plan}
use Rattle.std.proofs.Common.{refl, arith}
use Rattle.codegen.proofs.Steps.{instead}
use Rattle.codegen.proofs.expressions.local.Goals as goal

pub returns-clause-back : goal.returns-clause-back
returns-clause-back c = rw c.in_ok-push.ensures (local_plan _ (items_of c.args.worklist.now) c.args.config.now c.args.at c.args.of.now c.args.name.now _ c.representation_of.ensures)

pub returns-clause-sound : goal.returns-clause-sound
returns-clause-sound c = rw c.in_ok-push.ensures (instead _ _ _ _ (λ allow of s. (record { of = c.args.of.now; is = s.0; represented_so = c.representation_of.ensures }, s.1)) refl)

pub returns-clause-falls : goal.returns-clause-falls
returns-clause-falls c = rw c.in_ok-push.ensures (omega arith)
