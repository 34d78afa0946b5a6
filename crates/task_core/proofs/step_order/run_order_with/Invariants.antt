use Rattle.std.proofs.Common.{map, take}
use Rattle.task_core.specs.Order.{total}
use Rattle.task_core.specs.Steps.{HaveTurns, over}
use Rattle.task_core.proofs.StepLemmas.{Rounds}
use Rattle.task_core.proofs.step_order.run_order_with.Given as goal

-- the entries so far have given their turns
abbrev pub invariant-entries : goal.invariant-entries
invariant-entries g l = HaveTurns g.T.Step.rest g.T.Step.step (take l.entry-index l.order) (over l.initial.tasks l.initial.shared l.initial.runner) (over l.tasks l.shared l.runner)

-- all entries have given their turns, and some rounds were gone
abbrev pub invariant-rounds : goal.invariant-rounds
invariant-rounds g l = Rounds g.T.Step.rest g.T.Step.step l.order (over l.fn.tasks l.fn.shared l.fn.runner) (over l.tasks l.shared l.runner)

abbrev pub decreases-rounds : goal.decreases-rounds
decreases-rounds g l = total (map g.T.Step.rest l.tasks)
