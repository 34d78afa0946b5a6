use Rattle.task_core.specs.Order.{Went, tasks_from}
use Rattle.task_core.proofs.order.give_round.Given as goal

-- each task below this one has had its turn
abbrev pub invariant-tasks : goal.invariant-tasks
invariant-tasks g l = Went g.T.Task.rest g.T.Task.ending l.q (tasks_from 0 l.task) l.initial.tasks l.tasks
