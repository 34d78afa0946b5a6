use Rattle.std.proofs.Common.{◌≡◌, subst}
use Rattle.std.specs.Prelude.{IfSome}
use Rattle.machine.specs.Activations.{Activation}
use Rattle.verified_machine.specs.Tasks.{LeavesFitting, rest, ending}
use Rattle.verified_machine.proofs.Outcomes.{leaves_ending, leaves_fitting}
use Rattle.verified_machine.proofs.activation.VerifiedActivation.leave.Goals as goal

pub returns-clause-fitting : goal.returns-clause-fitting
returns-clause-fitting c =
    subst (λ (a : Activation). IfSome c.finish.result.outcome (LeavesFitting a)) c.self.view_is (leaves_fitting c.self.inside.run c.finish.result.outcome c.self.invariant.0 c.finish.ensures.leaves)

pub returns-clause-alone : goal.returns-clause-alone
returns-clause-alone c =
    subst (λ (a : Activation). rest a ≡ 0 → c.finish.result.outcome ≡ ending a) c.self.view_is
    (λ none. leaves_ending c.self.inside.run c.finish.result.outcome c.self.invariant.0 none c.finish.ensures.leaves)
