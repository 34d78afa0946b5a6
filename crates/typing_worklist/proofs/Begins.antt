-- Where an expression begins, and the type that it is.
use Rattle.std.proofs.Common.{◌≡◌, ℕ, List, Option, Some, None, refl, ap, ◌∙◌}
use Rattle.pl_types.specs.declared.ty.Ty.{Ty}
use Rattle.pl_tree.specs.declared.operator.UnaryOperator.TheVariants as sign
use Rattle.pl_tree.specs.declared.tree.Expr.{Expr, out-Expr}
use Rattle.pl_tree.specs.declared.tree.Argument.TheOpen.{Expr-F}
use Rattle.pl_tree.specs.declared.tree.TypeName.{TypeName}
use Rattle.allowlist.specs.Allow.{AllowList}
use Rattle.typing_rules.specs.declared.header.Header.{Header}
use Rattle.typing_rules.specs.Doing.{Doing, by_rule}
use Rattle.typing_rules.specs.Rules.Types.{type_of}
use Rattle.typing_rules.specs.Typing.{Reading, reading, expression_step}
use Rattle.typing_worklist.specs.Plans.{Open, left_of, place_of, type_in}
use Rattle.typing_worklist.proofs.Opened.{expression_over, expression_is}

-- where it begins, by its left end or by its own place
abbrev pub first_from : AllowList → List Header → Option Expr → ℕ → ℕ
first_from allow hs None at = at
first_from allow hs (Some e) at = (reading allow hs e).first

-- what it names by the type that it is
abbrev pub names_by : Option TypeName → Option (Doing Ty)
names_by None = None
names_by (Some of) = Some (by_rule (type_of of))

-- a node by its parts, and what it comes to
abbrev BeginsAs : AllowList → List Header → Open Expr-F → Reading → Type 0
BeginsAs allow hs y x = (x.first ≡ first_from allow hs (left_of y) (place_of y)) × (x.names ≡ names_by (type_in y))

begins : (allow : AllowList) (hs : List Header) (y : Open Expr-F) → BeginsAs allow hs y (expression_step allow hs (expression_over allow hs y))
begins allow hs (Expr-F.Assign operator at target value) = (refl, refl)
begins allow hs (Expr-F.Conditional at condition left right) = (refl, refl)
begins allow hs (Expr-F.Elvis at left right) = (refl, refl)
begins allow hs (Expr-F.Binary operator at left right) = (refl, refl)
begins allow hs (Expr-F.Instanceof at operand of) = (refl, refl)
begins allow hs (Expr-F.Unary sign.Plus at operand) = (refl, refl)
begins allow hs (Expr-F.Unary sign.Minus at operand) = (refl, refl)
begins allow hs (Expr-F.Unary sign.Not at operand) = (refl, refl)
begins allow hs (Expr-F.Unary sign.Complement at operand) = (refl, refl)
begins allow hs (Expr-F.Prefix step at target) = (refl, refl)
begins allow hs (Expr-F.Postfix step at target) = (refl, refl)
begins allow hs (Expr-F.Cast at of operand) = (refl, refl)
begins allow hs (Expr-F.Bracketed at inner) = (refl, refl)
begins allow hs (Expr-F.Integer at spelling) = (refl, refl)
begins allow hs (Expr-F.Text at spelling) = (refl, refl)
begins allow hs (Expr-F.Constant constant at) = (refl, refl)
begins allow hs (Expr-F.List at items) = (refl, refl)
begins allow hs (Expr-F.Map at entries) = (refl, refl)
begins allow hs (Expr-F.Name at spelling) = (refl, refl)
begins allow hs (Expr-F.Call at spelling given) = (refl, refl)
begins allow hs (Expr-F.New at of given) = (refl, refl)
begins allow hs (Expr-F.NewArray at of sizes) = (refl, refl)
begins allow hs (Expr-F.NewItems at of items) = (refl, refl)
begins allow hs (Expr-F.Type of) = (refl, refl)
begins allow hs (Expr-F.Member access at receiver spelling) = (refl, refl)
begins allow hs (Expr-F.Method access at receiver spelling given) = (refl, refl)
begins allow hs (Expr-F.Element access at receiver spelling) = (refl, refl)
begins allow hs (Expr-F.Index at receiver index) = (refl, refl)

pub first_is : (allow : AllowList) (hs : List Header) (e : Expr) → (reading allow hs e).first ≡ first_from allow hs (left_of (out-Expr e)) (place_of (out-Expr e))
first_is allow hs e = ap (λ (x : Reading). x.first) (expression_is allow hs e) ∙ (begins allow hs (out-Expr e)).0

pub names_are : (allow : AllowList) (hs : List Header) (e : Expr) → (reading allow hs e).names ≡ names_by (type_in (out-Expr e))
names_are allow hs e = ap (λ (x : Reading). x.names) (expression_is allow hs e) ∙ (begins allow hs (out-Expr e)).1
