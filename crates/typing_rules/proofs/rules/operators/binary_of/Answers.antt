-- The operator takes both sides, since it is neither `&&` nor `||`.
use Rattle.std.proofs.Common.{ap, sym, subst, ◌∙◌, Option}
use Rattle.pl_types.specs.declared.ty.Ty.{Ty}
use Rattle.typing_rules.specs.Outcomes.{Keeps, Out}
use Rattle.typing_rules.specs.declared.part.Part.{Part}
use Rattle.typing_rules.specs.declared.rules.plans.Plan.{Plan}
use Rattle.typing_rules.specs.Rules.Nodes.{type_of_part}
use Rattle.typing_rules.specs.Rules.Operators as spec
use Rattle.typing_rules.proofs.BothSides.{takes_both}
use Rattle.typing_rules.proofs.rules.operators.binary_of.Goals as goal

pub returns-in_default : goal.returns-in_default
returns-in_default c =
    let P : Out Part → Type 0 = λ o. Keeps o c.strict.result in
    subst P
    (ap (λ (plan : Option Plan). spec.strict plan c.args.operator c.args.at c.args.x c.args.y)
    (c.plan_between-plan.ensures
    ∙ ap (λ (of : Ty). spec.plan_between c.args.operator of c.of-in_default.result.now) c.of.ensures
    ∙ ap (λ (of : Ty). spec.plan_between c.args.operator (type_of_part c.args.x) of) c.of-in_default.ensures)
    ∙ sym (takes_both c.args.operator c.args.at c.args.x c.args.y c.in_default.not-AndAnd c.in_default.not-OrOr))
    c.strict.ensures
