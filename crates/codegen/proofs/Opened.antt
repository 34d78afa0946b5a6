-- Expressions and statements, one layer open.
use Rattle.std.proofs.Common.{◌≡◌, ℕ, refl, ap, ◌∙◌}
use Rattle.pl_types.specs.declared.ty.Ty.{Ty}
use Rattle.typed_tree.specs.declared.typed.Typed.{Typed, out-Typed}
use Rattle.typed_tree.specs.declared.typed.Node.{Node, out-Node}
use Rattle.typed_tree.specs.declared.typed.Node.TheOpen.{Node-F}
use Rattle.typed_tree.specs.declared.typed.Node.TheFolds.{fold_out-Typed, fold_out-Node, map-Node, fold-Node, fold-Typed}
use Rattle.source_meaning.specs.Tree.{Expr, type_of}
use Rattle.source_meaning.specs.Programs.{expr_of, node_expr, typed_expr}
use Rattle.std.proofs.Common.{Some, None}
use Rattle.typed_tree.specs.declared.statement.TypedStatement.{TypedStatement, out-TypedStatement}
use Rattle.typed_tree.specs.declared.statement.TypedCatch.{TypedCatch, out-TypedCatch}
use Rattle.typed_tree.specs.declared.statement.StatementNode.{StatementNode, out-StatementNode}
use Rattle.typed_tree.specs.declared.statement.StatementNode.TheOpen.{StatementNode-F}
use Rattle.typed_tree.specs.declared.statement.StatementNode.TheFolds.{fold_out-TypedStatement, fold_out-StatementNode, fold_out-TypedCatch, map-StatementNode, fold-StatementNode, fold-TypedCatch, fold-TypedStatement}
use Rattle.source_meaning.specs.Tree.{Stmts, Catches, Catch}
use Rattle.source_meaning.specs.Programs.{Before, Caught, before, node_before, catch_before, statement_before}
use Rattle.codegen.specs.Opened.{opened, opened_node, opened_before, body_of, caught}

node_layer : (x : Node-F Node Typed) (at : ℕ) (of : Ty)
    → node_expr (map-Node Node Typed (ℕ → Ty → Expr) Expr (fold-Node (ℕ → Ty → Expr) Expr node_expr typed_expr) (fold-Typed (ℕ → Ty → Expr) Expr node_expr typed_expr) x) at of ≡ opened_node x at of
unfolding expr_of
node_layer (Node-F.Constant constant) at of = refl
node_layer (Node-F.Text text) at of = refl
node_layer (Node-F.Local name) at of = refl
node_layer (Node-F.Apply operation parts) at of = refl
node_layer (Node-F.Guarded operation parts) at of = refl
node_layer (Node-F.Logical operator left right) at of = refl
node_layer (Node-F.Conditional condition yes' no') at of = refl
node_layer (Node-F.Elvis left right) at of = refl
node_layer (Node-F.Assign target parts value) at of = refl
node_layer (Node-F.Change target parts change right gives) at of = refl
node_layer (Node-F.Lambda interface function) at of = refl
node_layer (Node-F.Reference interface class name) at of = refl
node_layer (Node-F.NewReference interface made) at of = refl

pub expr_opened : (t : Typed) → expr_of t ≡ opened t
unfolding expr_of
expr_opened t =
    fold_out-Typed (ℕ → Ty → Expr) Expr node_expr typed_expr t
    ∙ ap (λ (f : ℕ → Ty → Expr). f (out-Typed t).at (out-Typed t).of) (fold_out-Node (ℕ → Ty → Expr) Expr node_expr typed_expr (out-Typed t).node)
    ∙ node_layer (out-Node (out-Typed t).node) (out-Typed t).at (out-Typed t).of

layer_type : (x : Node-F Node Typed) (at : ℕ) (of : Ty) → type_of (opened_node x at of) ≡ of
layer_type (Node-F.Constant constant) at of = refl
layer_type (Node-F.Text text) at of = refl
layer_type (Node-F.Local name) at of = refl
layer_type (Node-F.Apply operation parts) at of = refl
layer_type (Node-F.Guarded operation parts) at of = refl
layer_type (Node-F.Logical operator left right) at of = refl
layer_type (Node-F.Conditional condition yes' no') at of = refl
layer_type (Node-F.Elvis left right) at of = refl
layer_type (Node-F.Assign target parts value) at of = refl
layer_type (Node-F.Change target parts change right gives) at of = refl
layer_type (Node-F.Lambda interface function) at of = refl
layer_type (Node-F.Reference interface class name) at of = refl
layer_type (Node-F.NewReference interface made) at of = refl

pub type_opened : (t : Typed) → type_of (expr_of t) ≡ (out-Typed t).of
type_opened t = ap type_of (expr_opened t) ∙ layer_type (out-Node (out-Typed t).node) (out-Typed t).at (out-Typed t).of

layer_before : (x : StatementNode-F StatementNode TypedCatch TypedStatement) (rest : Stmts)
    → node_before (map-StatementNode StatementNode TypedCatch TypedStatement Before Caught Before (fold-StatementNode Before Caught Before node_before catch_before statement_before)
    (fold-TypedCatch Before Caught Before node_before catch_before statement_before) (fold-TypedStatement Before Caught Before node_before catch_before statement_before) x) rest ≡ opened_before x rest
unfolding before caught
layer_before (StatementNode-F.Expression value) rest = refl
layer_before (StatementNode-F.Declare variables) rest = refl
layer_before (StatementNode-F.Block statements) rest = refl
layer_before (StatementNode-F.If condition then None) rest = refl
layer_before (StatementNode-F.If condition then (Some otherwise)) rest = refl
layer_before (StatementNode-F.Loop None condition update None) rest = refl
layer_before (StatementNode-F.Loop None condition update (Some body)) rest = refl
layer_before (StatementNode-F.Loop (Some first) condition update None) rest = refl
layer_before (StatementNode-F.Loop (Some first) condition update (Some body)) rest = refl
layer_before (StatementNode-F.Do body condition) rest = refl
layer_before (StatementNode-F.Try body catches) rest = refl
layer_before StatementNode-F.Break rest = refl
layer_before StatementNode-F.Continue rest = refl
layer_before (StatementNode-F.Return value) rest = refl
layer_before (StatementNode-F.Throw value) rest = refl

pub statement_opened : (s : TypedStatement) (rest : Stmts) → before s rest ≡ opened_before (out-StatementNode (out-TypedStatement s).node) rest
unfolding before
statement_opened s rest =
    ap (λ (f : Before). f rest) (fold_out-TypedStatement Before Caught Before node_before catch_before statement_before s)
    ∙ ap (λ (f : Before). f rest) (fold_out-StatementNode Before Caught Before node_before catch_before statement_before (out-TypedStatement s).node)
    ∙ layer_before (out-StatementNode (out-TypedStatement s).node) rest

pub catch_opened : (c : TypedCatch) (rest : Catches) → caught c rest ≡ Catch (out-TypedCatch c).class (out-TypedCatch c).name (body_of (out-TypedCatch c).body) rest
unfolding before caught
catch_opened c rest = ap (λ (f : Caught). f rest) (fold_out-TypedCatch Before Caught Before node_before catch_before statement_before c)
