-- Operators between two sides that take both.
use Rattle.std.proofs.Common.{◌≡◌, ◌≢◌, ℕ, refl}
use Rattle.pl_tree.specs.declared.operator.BinaryOperator.{BinaryOperator}
use Rattle.pl_tree.specs.declared.operator.BinaryOperator.TheVariants as b
use Rattle.typing_rules.specs.declared.part.Part.{Part}
use Rattle.typing_rules.specs.Rules.Nodes.{type_of_part}
use Rattle.typing_rules.specs.Rules.Operators.{binary_of, plan_between, strict}

pub takes_both : (operator : BinaryOperator) (at : ℕ) (x y : Part) → operator ≢ b.AndAnd → operator ≢ b.OrOr
    → binary_of operator at x y ≡ strict (plan_between operator (type_of_part x) (type_of_part y)) operator at x y
takes_both b.AndAnd at x y a o = absurd (a refl)
takes_both b.OrOr at x y a o = absurd (o refl)
takes_both operator at x y a o = refl
