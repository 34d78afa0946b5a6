-- The typed programs of the code as trees in which scopes are parts.
use Rattle.std.specs.Prelude.{ℕ, List, [], ◌∷◌, map, Option, Some, None}
use Rattle.pl_types.specs.declared.ty.Ty.{Ty}
use Rattle.typed_tree.specs.declared.typed.Typed.{Typed}
use Rattle.typed_tree.specs.declared.typed.Node.TheOpen.{Typed-F, Node-F}
use Rattle.typed_tree.specs.declared.typed.Node.TheFolds.{fold-Typed}
use Rattle.typed_tree.specs.declared.statement.TypedStatement.{TypedStatement}
use Rattle.typed_tree.specs.declared.statement.TypedVariable.{TypedVariable}
use Rattle.typed_tree.specs.declared.statement.StatementNode.TheOpen.{TypedStatement-F, StatementNode-F, TypedCatch-F}
use Rattle.typed_tree.specs.declared.statement.StatementNode.TheFolds.{fold-TypedStatement}
use Rattle.typed_tree.specs.declared.program.Named.{Named}
use Rattle.typed_tree.specs.declared.program.TypedFunction.{TypedFunction}
use Rattle.typed_tree.specs.declared.program.Program as typed
use Rattle.source_meaning.specs.Tree.{Expr, Literal, Quoted, Local, Apply, Guarded, Logic, Conditional, Elvis, Assign, Modify, Lambda, Reference, NewReference, Exprs, None', One, Maybe, Missing, Given, Stmt, Do, If, While, DoWhile, Try, Block, Break, Continue, Return, Throw, Stmts, Finish, Then, Declare, Catches, NoCatch, Catch, Variable, Fun, Program}

-- ---- expressions

abbrev pub exprs_of : List Expr → Exprs
exprs_of [] = None'
exprs_of (part ∷ parts) = One part (exprs_of parts)

-- a node at a place, with a type
abbrev pub node_expr : Node-F (ℕ → Ty → Expr) Expr → ℕ → Ty → Expr
node_expr (Node-F.Constant constant) at of = Literal at of constant
node_expr (Node-F.Text text) at of = Quoted at of text
node_expr (Node-F.Local name) at of = Local at of name
node_expr (Node-F.Apply operation parts) at of = Apply at of operation (exprs_of parts)
node_expr (Node-F.Guarded operation parts) at of = Guarded at of operation (exprs_of parts)
node_expr (Node-F.Logical operator left right) at of = Logic at of operator left right
node_expr (Node-F.Conditional condition yes' no') at of = Conditional at of condition yes' no'
node_expr (Node-F.Elvis left right) at of = Elvis at of left right
node_expr (Node-F.Assign target parts value) at of = Assign at of target (exprs_of parts) value
node_expr (Node-F.Change target parts change right gives) at of = Modify at of target (exprs_of parts) change right gives
node_expr (Node-F.Lambda interface function) at of = Lambda at of interface function
node_expr (Node-F.Reference interface class name) at of = Reference at of interface class name
node_expr (Node-F.NewReference interface made) at of = NewReference at of interface made

abbrev pub typed_expr : Typed-F (ℕ → Ty → Expr) Expr → Expr
typed_expr t = t.node t.at t.of

unfoldable pub expr_of : Typed → Expr
expr_of t = fold-Typed (ℕ → Ty → Expr) Expr node_expr typed_expr t

abbrev pub maybe_of : Option Typed → Maybe
maybe_of None = Missing
maybe_of (Some t) = Given (expr_of t)

-- ---- statements: each stands before those that follow it, which are in the scope of what it declares

-- a statement before others
abbrev pub Before : Type 0
Before = Stmts → Stmts

abbrev pub alone : Before → Stmts
alone s = s Finish

abbrev pub alone_if : Option Before → Stmts
alone_if None = Finish
alone_if (Some s) = alone s

abbrev pub in_row : List Before → Stmts → Stmts
in_row [] rest = rest
in_row (s ∷ ss) rest = s (in_row ss rest)

abbrev pub declared : List TypedVariable → Stmts → Stmts
declared [] rest = rest
declared (x ∷ xs) rest = Declare x.name x.of (maybe_of x.value) (declared xs rest)

-- what is done before a loop has a scope around the loop
abbrev pub begun : Option Before → Stmt → Stmt
begun None loop = loop
begun (Some first) loop = Block (first (Then loop Finish))

-- a catch before others
abbrev pub Caught : Type 0
Caught = Catches → Catches

abbrev pub caught_in_row : List Caught → Catches
caught_in_row [] = NoCatch
caught_in_row (c ∷ cs) = c (caught_in_row cs)

abbrev pub catch_before : TypedCatch-F Before Caught Before → Caught
catch_before c rest = Catch c.class c.name (alone c.body) rest

abbrev pub node_before : StatementNode-F Before Caught Before → Before
node_before (StatementNode-F.Expression value) rest = Then (Do (expr_of value)) rest
node_before (StatementNode-F.Declare variables) rest = declared variables rest
node_before (StatementNode-F.Block statements) rest = Then (Block (in_row statements Finish)) rest
node_before (StatementNode-F.If condition then otherwise) rest = Then (If (expr_of condition) (alone then) (alone_if otherwise)) rest
node_before (StatementNode-F.Loop first condition update body) rest = Then (begun first (While (maybe_of condition) (maybe_of update) (alone_if body))) rest
node_before (StatementNode-F.Do body condition) rest = Then (DoWhile (alone body) (maybe_of condition)) rest
node_before (StatementNode-F.Try body catches) rest = Then (Try (alone body) (caught_in_row catches)) rest
node_before StatementNode-F.Break rest = Then Break rest
node_before StatementNode-F.Continue rest = Then Continue rest
node_before (StatementNode-F.Return value) rest = Then (Return (maybe_of value)) rest
node_before (StatementNode-F.Throw value) rest = Then (Throw (expr_of value)) rest

abbrev pub statement_before : TypedStatement-F Before Caught Before → Before
statement_before s = s.node

unfoldable pub before : TypedStatement → Before
before s = fold-TypedStatement Before Caught Before node_before catch_before statement_before s

abbrev pub stmts_of : List TypedStatement → Stmts
stmts_of statements = in_row (map before statements) Finish

-- ---- programs

abbrev pub variable_of : Named → Variable
variable_of x = record { name = x.name; of = x.of }

abbrev pub fun_of : TypedFunction → Fun
fun_of f = record { kind = f.kind; captured = map variable_of f.captured; params = map variable_of f.parameters; result = f.result; body = stmts_of f.body }

-- The functions of a typed program, the main script first, by their numbers.
abbrev pub program_of : typed.Program → Program
program_of p = fun_of p.main ∷ map fun_of p.functions
