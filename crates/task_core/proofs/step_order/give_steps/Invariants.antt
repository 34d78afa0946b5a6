use Rattle.task_core.specs.Order.{tasks_from}
use Rattle.task_core.specs.Steps.{HaveTurns, over}
use Rattle.task_core.proofs.step_order.give_steps.Given as goal

-- each task below this place has had its turn
abbrev pub invariant-places : goal.invariant-places
invariant-places g l = HaveTurns g.T.Step.rest g.T.Step.step (tasks_from 0 l.place) (over l.initial.tasks l.initial.shared l.initial.runner) (over l.tasks l.shared l.runner)
