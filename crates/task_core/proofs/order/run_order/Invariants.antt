use Rattle.std.proofs.Common.{map, take}
use Rattle.task_core.specs.Order.{Went, total}
use Rattle.task_core.proofs.RanLemmas.{InRounds}
use Rattle.task_core.proofs.order.run_order.Given as goal

-- the entries so far have given their turns
abbrev pub invariant-entries : goal.invariant-entries
invariant-entries g l = Went g.T.Task.rest g.T.Task.ending l.q (take l.entry-index l.order) l.initial.tasks l.tasks

-- all entries have given their turns, and some rounds were gone
abbrev pub invariant-rounds : goal.invariant-rounds
invariant-rounds g l = InRounds g.T.Task.rest g.T.Task.ending l.q l.order l.fn.tasks l.tasks

abbrev pub decreases-rounds : goal.decreases-rounds
decreases-rounds g l = total (map g.T.Task.rest l.tasks)
