use Rattle.task_core.proofs.StepLemmas.{gives_next}
use Rattle.task_core.proofs.step_order.give_steps.Goals as goal

pub places-preserved : goal.places-preserved
places-preserved g c = gives_next _ _ _ _ _ _ c.places.invariant c.in_ok-give_step.ensures
