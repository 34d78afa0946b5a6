use Rattle.std.proofs.Common.{◌∙◌, ap}
use Rattle.std.specs.Prelude.{◌==◌}
use Rattle.machine.specs.Activations.{Activation}
use Rattle.verified_machine.specs.Tasks.{rest}
use Rattle.verified_machine.proofs.Resting.{done_is}
use Rattle.verified_machine.proofs.activation.VerifiedActivationTask.is_done.Goals as goal

pub returns : goal.returns
returns c = c.self.invariant.2 ∙ done_is c.self.inside.run c.self.invariant.0 ∙ ap (λ (a : Activation). rest a == 0) c.self.view_is
