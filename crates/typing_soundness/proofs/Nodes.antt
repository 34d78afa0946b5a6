-- The nodes of typing as trees.
use Rattle.std.proofs.Common.{◌≡◌, ℕ, List, map, sym, ap, ◌∙◌}
use Rattle.pl_types.specs.declared.ty.Ty.{Ty}
use Rattle.typed_tree.specs.declared.operation.Constant.{Constant}
use Rattle.typed_tree.specs.declared.operation.Operation.{Operation}
use Rattle.typed_tree.specs.declared.operation.Logical.{Logical}
use Rattle.typed_tree.specs.declared.operation.Target.{Target}
use Rattle.typed_tree.specs.declared.operation.Change.{Change}
use Rattle.typed_tree.specs.declared.operation.Gives.{Gives}
use Rattle.typed_tree.specs.declared.typed.Node.{Node}
use Rattle.typed_tree.specs.declared.typed.Typed.{Typed}
use Rattle.typed_tree.specs.declared.typed.Node.TheVariants as n
use Rattle.typed_tree.specs.declared.typed.Node.TheOpen.{Node-F}
use Rattle.typed_tree.specs.declared.typed.Node.TheFolds.{fold-Node, fold-roll-Typed, fold-roll-Node}
use Rattle.source_typing.specs.Tree.{Name, Expr, Literal, Quoted, Local, Apply, Guarded, Logic, Conditional, Elvis, Assign, Modify}
use Rattle.source_typing.specs.Programs.{exprs_of, node_expr, typed_expr, expr_of}
use Rattle.typing_rules.specs.Rules.Nodes.{typed, applied}

at_node : (at : ℕ) (of : Ty) (node : Node) → expr_of (typed at of node) ≡ fold-Node (ℕ → Ty → Expr) Expr node_expr typed_expr node at of
unfolding expr_of
at_node at of node = fold-roll-Typed (ℕ → Ty → Expr) Expr node_expr typed_expr (record { at = at; of = of; node = node })

pub constant_is : (at : ℕ) (of : Ty) (c : Constant) → expr_of (typed at of (n.Constant c)) ≡ Literal at of c
constant_is at of c = at_node at of (n.Constant c) ∙ ap (λ f. f at of) (ap (fold-Node (ℕ → Ty → Expr) Expr node_expr typed_expr) (sym (n.rolls-Constant c)) ∙ fold-roll-Node (ℕ → Ty → Expr) Expr node_expr typed_expr (Node-F.Constant c))

pub text_is : (at : ℕ) (of : Ty) (text : List ℕ) → expr_of (typed at of (n.Text text)) ≡ Quoted at of text
text_is at of text = at_node at of (n.Text text) ∙ ap (λ f. f at of) (ap (fold-Node (ℕ → Ty → Expr) Expr node_expr typed_expr) (sym (n.rolls-Text text)) ∙ fold-roll-Node (ℕ → Ty → Expr) Expr node_expr typed_expr (Node-F.Text text))

pub local_is : (at : ℕ) (of : Ty) (x : Name) → expr_of (typed at of (n.Local x)) ≡ Local at of x
local_is at of x = at_node at of (n.Local x) ∙ ap (λ f. f at of) (ap (fold-Node (ℕ → Ty → Expr) Expr node_expr typed_expr) (sym (n.rolls-Local x)) ∙ fold-roll-Node (ℕ → Ty → Expr) Expr node_expr typed_expr (Node-F.Local x))

pub applied_is : (at : ℕ) (of : Ty) (o : Operation) (parts : List Typed) → expr_of (applied at of o parts) ≡ Apply at of o (exprs_of (map expr_of parts))
unfolding expr_of
applied_is at of o parts = at_node at of (n.Apply o parts) ∙ ap (λ f. f at of) (ap (fold-Node (ℕ → Ty → Expr) Expr node_expr typed_expr) (sym (n.rolls-Apply o parts)) ∙ fold-roll-Node (ℕ → Ty → Expr) Expr node_expr typed_expr (Node-F.Apply o parts))

pub guarded_is : (at : ℕ) (of : Ty) (o : Operation) (parts : List Typed) → expr_of (typed at of (n.Guarded o parts)) ≡ Guarded at of o (exprs_of (map expr_of parts))
unfolding expr_of
guarded_is at of o parts = at_node at of (n.Guarded o parts) ∙ ap (λ f. f at of) (ap (fold-Node (ℕ → Ty → Expr) Expr node_expr typed_expr) (sym (n.rolls-Guarded o parts)) ∙ fold-roll-Node (ℕ → Ty → Expr) Expr node_expr typed_expr (Node-F.Guarded o parts))

pub logic_is : (at : ℕ) (of : Ty) (o : Logical) (left right : Typed) → expr_of (typed at of (n.Logical o left right)) ≡ Logic at of o (expr_of left) (expr_of right)
unfolding expr_of
logic_is at of o left right = at_node at of (n.Logical o left right) ∙ ap (λ f. f at of) (ap (fold-Node (ℕ → Ty → Expr) Expr node_expr typed_expr) (sym (n.rolls-Logical o left right)) ∙ fold-roll-Node (ℕ → Ty → Expr) Expr node_expr typed_expr (Node-F.Logical o left right))

pub choice_is : (at : ℕ) (of : Ty) (z x y : Typed) → expr_of (typed at of (n.Conditional z x y)) ≡ Conditional at of (expr_of z) (expr_of x) (expr_of y)
unfolding expr_of
choice_is at of z x y = at_node at of (n.Conditional z x y) ∙ ap (λ f. f at of) (ap (fold-Node (ℕ → Ty → Expr) Expr node_expr typed_expr) (sym (n.rolls-Conditional z x y)) ∙ fold-roll-Node (ℕ → Ty → Expr) Expr node_expr typed_expr (Node-F.Conditional z x y))

pub elvis_is : (at : ℕ) (of : Ty) (left right : Typed) → expr_of (typed at of (n.Elvis left right)) ≡ Elvis at of (expr_of left) (expr_of right)
unfolding expr_of
elvis_is at of left right = at_node at of (n.Elvis left right) ∙ ap (λ f. f at of) (ap (fold-Node (ℕ → Ty → Expr) Expr node_expr typed_expr) (sym (n.rolls-Elvis left right)) ∙ fold-roll-Node (ℕ → Ty → Expr) Expr node_expr typed_expr (Node-F.Elvis left right))

pub assign_is : (at : ℕ) (of : Ty) (to : Target) (parts : List Typed) (value : Typed) → expr_of (typed at of (n.Assign to parts value)) ≡ Assign at of to (exprs_of (map expr_of parts)) (expr_of value)
unfolding expr_of
assign_is at of to parts value = at_node at of (n.Assign to parts value) ∙ ap (λ f. f at of) (ap (fold-Node (ℕ → Ty → Expr) Expr node_expr typed_expr) (sym (n.rolls-Assign to parts value)) ∙ fold-roll-Node (ℕ → Ty → Expr) Expr node_expr typed_expr (Node-F.Assign to parts value))

pub change_is : (at : ℕ) (of : Ty) (to : Target) (parts : List Typed) (change : Change) (right : Typed) (gives : Gives)
    → expr_of (typed at of (n.Change to parts change right gives)) ≡ Modify at of to (exprs_of (map expr_of parts)) change (expr_of right) gives
unfolding expr_of
change_is at of to parts change right gives = at_node at of (n.Change to parts change right gives) ∙ ap (λ f. f at of) (ap (fold-Node (ℕ → Ty → Expr) Expr node_expr typed_expr) (sym (n.rolls-Change to parts change right gives)) ∙ fold-roll-Node (ℕ → Ty → Expr) Expr node_expr typed_expr (Node-F.Change to parts change right gives))
