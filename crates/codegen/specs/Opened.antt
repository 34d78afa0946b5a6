-- Expressions and statements, one layer open.
use Rattle.std.specs.Prelude.{ℕ, map, Option, Some, None}
use Rattle.pl_types.specs.declared.ty.Ty.{Ty}
use Rattle.typed_tree.specs.declared.typed.Typed.{Typed, out-Typed}
use Rattle.typed_tree.specs.declared.typed.Node.{Node, out-Node}
use Rattle.typed_tree.specs.declared.typed.Node.TheOpen.{Node-F}
use Rattle.source_meaning.specs.Tree.{Expr, Literal, Quoted, Local, Apply, Guarded, Logic, Conditional, Elvis, Assign, Modify, Lambda, Reference, NewReference, Stmt, Do, If, While, DoWhile, Try, Block, Break, Continue, Return, Throw, Stmts, Finish, Then}
use Rattle.source_meaning.specs.Programs.{expr_of, exprs_of, maybe_of, before, declared, stmts_of, Before, Caught, caught_in_row, node_before, catch_before, statement_before}
use Rattle.typed_tree.specs.declared.statement.TypedStatement.{TypedStatement, out-TypedStatement}
use Rattle.typed_tree.specs.declared.statement.StatementNode.{StatementNode, out-StatementNode}
use Rattle.typed_tree.specs.declared.statement.TypedCatch.{TypedCatch}
use Rattle.typed_tree.specs.declared.statement.StatementNode.TheOpen.{StatementNode-F}
use Rattle.typed_tree.specs.declared.statement.StatementNode.TheFolds.{fold-TypedCatch}

abbrev pub opened_node : Node-F Node Typed → ℕ → Ty → Expr
opened_node (Node-F.Constant constant) at of = Literal at of constant
opened_node (Node-F.Text text) at of = Quoted at of text
opened_node (Node-F.Local name) at of = Local at of name
opened_node (Node-F.Apply operation parts) at of = Apply at of operation (exprs_of (map expr_of parts))
opened_node (Node-F.Guarded operation parts) at of = Guarded at of operation (exprs_of (map expr_of parts))
opened_node (Node-F.Logical operator left right) at of = Logic at of operator (expr_of left) (expr_of right)
opened_node (Node-F.Conditional condition yes' no') at of = Conditional at of (expr_of condition) (expr_of yes') (expr_of no')
opened_node (Node-F.Elvis left right) at of = Elvis at of (expr_of left) (expr_of right)
opened_node (Node-F.Assign target parts value) at of = Assign at of target (exprs_of (map expr_of parts)) (expr_of value)
opened_node (Node-F.Change target parts change right gives) at of = Modify at of target (exprs_of (map expr_of parts)) change (expr_of right) gives
opened_node (Node-F.Lambda interface function) at of = Lambda at of interface function
opened_node (Node-F.Reference interface class name) at of = Reference at of interface class name
opened_node (Node-F.NewReference interface made) at of = NewReference at of interface made

abbrev pub opened : Typed → Expr
opened t = opened_node (out-Node (out-Typed t).node) (out-Typed t).at (out-Typed t).of

-- a statement by itself, and one that may be missing
abbrev pub body_of : TypedStatement → Stmts
body_of s = before s Finish

abbrev pub body_if : Option TypedStatement → Stmts
body_if None = Finish
body_if (Some s) = body_of s

unfoldable pub caught : TypedCatch → Caught
caught c = fold-TypedCatch Before Caught Before node_before catch_before statement_before c

-- a statement that declares nothing, without what is done before a loop; a declaration, which never stands so, is in a block of its own
abbrev pub opened_statement : StatementNode-F StatementNode TypedCatch TypedStatement → Stmt
opened_statement (StatementNode-F.Expression value) = Do (expr_of value)
opened_statement (StatementNode-F.Declare variables) = Block (declared variables Finish)
opened_statement (StatementNode-F.Block statements) = Block (stmts_of statements)
opened_statement (StatementNode-F.If condition then otherwise) = If (expr_of condition) (body_of then) (body_if otherwise)
opened_statement (StatementNode-F.Loop first condition update body) = While (maybe_of condition) (maybe_of update) (body_if body)
opened_statement (StatementNode-F.Do body condition) = DoWhile (body_of body) (maybe_of condition)
opened_statement (StatementNode-F.Try body catches) = Try (body_of body) (caught_in_row (map caught catches))
opened_statement StatementNode-F.Break = Break
opened_statement StatementNode-F.Continue = Continue
opened_statement (StatementNode-F.Return value) = Return (maybe_of value)
opened_statement (StatementNode-F.Throw value) = Throw (expr_of value)

abbrev pub statement_of : TypedStatement → Stmt
statement_of s = opened_statement (out-StatementNode (out-TypedStatement s).node)

abbrev pub loop_before : Option TypedStatement → Stmt → Stmts → Stmts
loop_before None loop rest = Then loop rest
loop_before (Some first) loop rest = Then (Block (before first (Then loop Finish))) rest

-- a statement before others
abbrev pub opened_before : StatementNode-F StatementNode TypedCatch TypedStatement → Stmts → Stmts
opened_before (StatementNode-F.Declare variables) rest = declared variables rest
opened_before (StatementNode-F.Loop first condition update body) rest = loop_before first (opened_statement (StatementNode-F.Loop first condition update body)) rest
opened_before other rest = Then (opened_statement other) rest
