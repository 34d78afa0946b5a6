use Rattle.std.proofs.Common.{arith}
use Rattle.task_core.proofs.StepLemmas.{gives_step, gives_none, gives_past}
use Rattle.task_core.proofs.step_order.give_step.Goals as goal

pub returns-in-More : goal.returns-in-More
returns-in-More g c =
    gives_step _ _ _ _ c.index-tasks-place.result _ _ _ _ _ c.turn.result (omega arith) c.index-tasks-place.is c.in-More.is c.turn.ensures

pub returns-then-is_done : goal.returns-then-is_done
returns-then-is_done g c =
    gives_none _ _ _ _ c.index-tasks-place.result _ _ c.is_done.result (omega arith) c.index-tasks-place.is c.is_done.ensures c.if-is_done.true

pub returns-then-place-tasks : goal.returns-then-place-tasks
returns-then-place-tasks g c = gives_past _ _ _ _ _ _ (omega arith)
