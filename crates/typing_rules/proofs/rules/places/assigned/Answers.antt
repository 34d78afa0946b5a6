use Rattle.std.proofs.Common.{subst, sym, ap, ◌∙◌, Option}
use Rattle.pl_tree.specs.declared.operator.BinaryOperator.{BinaryOperator}
use Rattle.pl_types.specs.declared.ty.Ty.{Ty}
use Rattle.typing_rules.specs.declared.rules.plans.Plan.{Plan}
use Rattle.typing_rules.specs.Outcomes.{Keeps}
use Rattle.typing_rules.specs.Rules.Operators.{plan_between}
use Rattle.typing_rules.specs.Rules.Places as spec
use Rattle.typing_rules.proofs.rules.places.assigned.Goals as goal

pub returns-in-Some : goal.returns-in-Some
returns-in-Some c =
    let operator = c.in-Some.operator in
    subst (λ (o : Option BinaryOperator). Keeps (spec.assigned o c.args.at c.args.location c.args.x) c.compound.result) (sym c.in-Some.is)
    (subst (λ (plan : Option Plan). Keeps (spec.compound plan operator c.args.at c.args.location c.args.x) c.compound.result)
    (c.plan_between-plan.ensures ∙ ap (λ (of : Ty). plan_between operator c.args.location.gives of) c.of.ensures)
    c.compound.ensures)
