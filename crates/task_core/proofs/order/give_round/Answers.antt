use Rattle.task_core.proofs.RanLemmas.{gives_next}
use Rattle.task_core.proofs.order.give_round.Goals as goal

pub tasks-preserved : goal.tasks-preserved
tasks-preserved g c = gives_next _ _ _ _ _ _ _ c.tasks.invariant c.in_ok-give_turn.ensures
