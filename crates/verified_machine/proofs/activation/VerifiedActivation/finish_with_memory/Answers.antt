use Rattle.std.proofs.Common.{sym, ◌∙◌}
use Rattle.verified_machine.proofs.Fitted.{ending_fits}
use Rattle.verified_machine.proofs.activation.VerifiedActivation.finish_with_memory.Goals as goal

pub returns-clause-heap : goal.returns-clause-heap
returns-clause-heap c =
    ending_fits c.args.self c.in-Some.outcome (sym (sym c.in-Some.is ∙ c.leave-outcome.ensures.alone c.in_ok-run_out.ensures.left ∙ c.in_ok-run_out.ensures.ending))
