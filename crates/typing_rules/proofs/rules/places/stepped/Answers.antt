use Rattle.std.proofs.Common.{subst, Option}
use Rattle.typing_rules.specs.declared.rules.plans.Plan.{Plan}
use Rattle.typing_rules.specs.Outcomes.{Keeps}
use Rattle.typing_rules.specs.Rules.Places.{counted}
use Rattle.typing_rules.proofs.rules.places.stepped.Goals as goal

pub returns : goal.returns
returns c =
    subst (λ (plan : Option Plan). Keeps (counted plan c.args.at c.args.step c.args.location c.args.gives) c.counted.result) c.step_plan-plan.ensures c.counted.ensures
