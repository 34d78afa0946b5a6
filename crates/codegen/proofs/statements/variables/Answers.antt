use Rattle.std.proofs.Common.{refl, arith}
use Rattle.codegen.specs.Worklist.{items_of}
use Rattle.codegen.proofs.Bodies.{block_plan}
use Rattle.codegen.proofs.Steps.{instead}
use Rattle.codegen.proofs.Agreeing.{block_agrees}
use Rattle.codegen.proofs.statements.variables.Goals as goal

pub returns-clause-back : goal.returns-clause-back
returns-clause-back c = rw c.in_ok-push_two.ensures (block_plan _ (items_of c.args.worklist.now) c.args.config.now c.args.exits _ c.len-height.result c.len-height.ensures)

pub returns-clause-sound : goal.returns-clause-sound
returns-clause-sound c = rw c.in_ok-push_two.ensures (instead _ _ _ _ (λ allow of s. block_agrees _ of (items_of c.args.worklist.now) c.args.config.now c.args.exits _ c.len-height.result c.len-height.ensures s) refl)

pub returns-clause-falls : goal.returns-clause-falls
returns-clause-falls c = rw c.in_ok-push_two.ensures (omega arith)
