use Rattle.task_core.proofs.RanLemmas.{gives_turn, gives_none}
use Rattle.task_core.proofs.order.give_turn.Goals as goal

pub returns-in-More : goal.returns-in-More
returns-in-More g c =
    gives_turn _ _ _ _ _ c.index-tasks-task.result _ c.is_done.result c.turn.result c.requires.within c.index-tasks-task.is c.is_done.ensures c.if-is_done.false c.in-More.is c.turn.ensures

pub returns-then-is_done : goal.returns-then-is_done
returns-then-is_done g c =
    gives_none _ _ _ _ _ c.index-tasks-task.result c.is_done.result c.requires.within c.index-tasks-task.is c.is_done.ensures c.if-is_done.true
