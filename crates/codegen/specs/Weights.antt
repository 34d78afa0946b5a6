-- How many items an item still comes to, at most: what is put in the place of an item weighs less than the item does.
use Rattle.std.specs.Prelude.{ℕ, ◌+◌, List, [], ◌∷◌, drop, map, Option, Some, None}
use Rattle.std.specs.Borrow.{Bor}
use Rattle.typed_tree.specs.declared.typed.Typed.{Typed}
use Rattle.typed_tree.specs.declared.statement.StatementNode.{StatementNode, out-StatementNode}
use Rattle.typed_tree.specs.declared.statement.StatementNode.TheOpen.{StatementNode-F, TypedCatch-F, TypedStatement-F}
use Rattle.typed_tree.specs.declared.statement.StatementNode.TheFolds.{fold-TypedCatch, fold-TypedStatement, map-StatementNode, fold-StatementNode}
use Rattle.typed_tree.specs.declared.statement.TypedCatch.{TypedCatch}
use Rattle.typed_tree.specs.declared.statement.TypedStatement.{TypedStatement, out-TypedStatement}
use Rattle.typed_tree.specs.declared.statement.TypedVariable.{TypedVariable}
use Rattle.source_meaning.specs.Tree.{Expr, Literal, Quoted, Local, Apply, Guarded, Logic, Conditional, Elvis, Assign, Modify, Lambda, Reference, NewReference, Exprs, None', One}
use Rattle.source_meaning.specs.Programs.{expr_of}
use Rattle.codegen.specs.Worklist.{parts_from}
use Rattle.codegen.specs.declared.work_item.Tail.{Tail}
use Rattle.codegen.specs.declared.work_item.Tail.TheVariants as tail
use Rattle.codegen.specs.declared.work_item.WorkItem.{WorkItem}
use Rattle.codegen.specs.declared.work_item.WorkItem.TheVariants as t

-- Each expression weighs twenty more than its parts do.
abbrev mutual
  pub expression : Expr → ℕ
  expression (Literal at of c) = 20
  expression (Quoted at of text) = 20
  expression (Local at of x) = 20
  expression (Apply at of o es) = 20 + parts es
  expression (Guarded at of o es) = 20 + parts es
  expression (Logic at of o left right) = 20 + (expression left + expression right)
  expression (Conditional at of c yes' no') = 20 + (expression c + expression yes' + expression no')
  expression (Elvis at of left right) = 20 + (expression left + expression right)
  expression (Assign at of to es value) = 20 + (parts es + expression value)
  expression (Modify at of to es change right gives) = 20 + (parts es + expression right)
  expression (Lambda at of interface function) = 20
  expression (Reference at of interface class name) = 20
  expression (NewReference at of interface made) = 20

  pub parts : Exprs → ℕ
  parts None' = 1
  parts (One e others) = 1 + (expression e + parts others)

abbrev pub value : Typed → ℕ
value e = expression (expr_of e)

abbrev pub value_if : Option Typed → ℕ
value_if None = 0
value_if (Some e) = value e

abbrev pub value_in : Option (Bor Typed) → ℕ
value_in None = 0
value_in (Some e) = value e.now

-- variables, each with what it begins with
abbrev pub variables : List TypedVariable → ℕ
variables [] = 0
variables (x ∷ xs) = 3 + (value_if x.value + variables xs)

-- statements in a row, by what each weighs, and catches
abbrev pub row : List ℕ → ℕ
row [] = 0
row (x ∷ xs) = 3 + (x + row xs)

abbrev pub handlers : List ℕ → ℕ
handlers [] = 0
handlers (x ∷ xs) = 11 + (x + handlers xs)

abbrev pub perhaps : Option ℕ → ℕ
perhaps None = 0
perhaps (Some x) = x

-- a statement over the weights of its parts: without what is done before a loop, and with it
abbrev pub alone_step : StatementNode-F ℕ ℕ ℕ → ℕ
alone_step (StatementNode-F.Expression e) = 20 + value e
alone_step (StatementNode-F.Declare xs) = 20 + variables xs
alone_step (StatementNode-F.Block statements) = 20 + row statements
alone_step (StatementNode-F.If condition then otherwise) = 20 + (value condition + then + perhaps otherwise)
alone_step (StatementNode-F.Loop first condition update body) = 20 + (value_if condition + value_if update + perhaps body)
alone_step (StatementNode-F.Do body condition) = 20 + (body + value_if condition)
alone_step (StatementNode-F.Try body catches) = 20 + (body + handlers catches)
alone_step StatementNode-F.Break = 20
alone_step StatementNode-F.Continue = 20
alone_step (StatementNode-F.Return e) = 20 + value_if e
alone_step (StatementNode-F.Throw e) = 20 + value e

abbrev pub begun_step : StatementNode-F ℕ ℕ ℕ → ℕ
begun_step (StatementNode-F.Loop (Some first) condition update body) = 20 + first
begun_step other = 0

abbrev pub node_step : StatementNode-F ℕ ℕ ℕ → ℕ
node_step x = begun_step x + alone_step x

abbrev pub catch_step : TypedCatch-F ℕ ℕ ℕ → ℕ
catch_step e = e.body

abbrev pub statement_step : TypedStatement-F ℕ ℕ ℕ → ℕ
statement_step s = s.node

unfoldable pub node : StatementNode → ℕ
node s = fold-StatementNode ℕ ℕ ℕ node_step catch_step statement_step s

unfoldable pub statement : TypedStatement → ℕ
statement s = fold-TypedStatement ℕ ℕ ℕ node_step catch_step statement_step s

unfoldable pub handler : TypedCatch → ℕ
handler e = fold-TypedCatch ℕ ℕ ℕ node_step catch_step statement_step e

abbrev pub statement_if : Option TypedStatement → ℕ
statement_if None = 0
statement_if (Some s) = statement s

-- a statement, one layer open
abbrev pub over : StatementNode-F StatementNode TypedCatch TypedStatement → StatementNode-F ℕ ℕ ℕ
over = map-StatementNode StatementNode TypedCatch TypedStatement ℕ ℕ ℕ node handler statement

-- a statement without what is done before a loop
abbrev pub alone : TypedStatement → ℕ
alone s = alone_step (over (out-StatementNode (out-TypedStatement s).node))

-- what is done before a loop
abbrev pub begun : Option TypedStatement → ℕ
begun None = 0
begun (Some first) = 20 + statement first

-- what stands behind a statement in its scope
abbrev pub behind : Tail → ℕ
behind tail.Nothing = 0
behind (tail.Row all at) = row (map statement (drop at all.now))
behind (tail.Loop s) = 2 + alone s.now

-- What an item weighs: one if nothing is put in its place.
abbrev pub weight_of : WorkItem → ℕ
weight_of (t.Value e) = value e.now
weight_of (t.Values es at kind) = parts (parts_from at es.now)
weight_of (t.One s exits) = alone s.now
weight_of (t.Statement s rest exits) = 4 + (statement s.now + behind rest)
weight_of (t.Rest rest exits) = 2 + behind rest
weight_of (t.Variables xs at rest exits) = 3 + (variables (drop at xs.now) + behind rest)
weight_of (t.Skip label) = 2
weight_of (t.Update e) = 2 + value_in e
weight_of (t.Test e) = 2 + value_in e
weight_of (t.Last e label) = 2 + value_in e
weight_of (t.Tried catches from label exits) = 3 + handlers (map handler catches.now)
weight_of (t.Caught catches at from to label exits) = 2 + handlers (map handler (drop at catches.now))
weight_of (t.Over catches at label) = 3
weight_of (t.End of) = 3
weight_of _ = 1

abbrev pub weights : List WorkItem → ℕ
weights [] = 0
weights (x ∷ xs) = weight_of x + weights xs
