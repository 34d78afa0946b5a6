-- How many items an item still comes to, at most: what is put in the place of an item weighs less than the item does.
use Rattle.std.specs.Prelude.{ℕ, ◌+◌, ◌*◌, List, [], ◌∷◌, drop, length, map, Option, Some, None}
use Rattle.pl_tree.specs.declared.tree.Argument.{Argument}
use Rattle.pl_tree.specs.declared.tree.Body.{Body}
use Rattle.pl_tree.specs.declared.tree.Expr.{Expr}
use Rattle.pl_tree.specs.declared.tree.First.{First}
use Rattle.pl_tree.specs.declared.tree.LambdaBody.{LambdaBody}
use Rattle.pl_tree.specs.declared.tree.Statement.{Statement}
use Rattle.pl_tree.specs.declared.tree.Block.{Block}
use Rattle.pl_tree.specs.declared.tree.Catch.{Catch}
use Rattle.pl_tree.specs.declared.tree.Declaration.{Declaration}
use Rattle.pl_tree.specs.declared.tree.Entry.{Entry}
use Rattle.pl_tree.specs.declared.tree.Variable.{Variable}
use Rattle.pl_tree.specs.declared.tree.Argument.TheOpen.{Argument-F, Body-F, Expr-F, First-F, LambdaBody-F, Statement-F, Block-F, Catch-F, Declaration-F, Entry-F, Variable-F}
use Rattle.pl_tree.specs.declared.tree.Argument.TheFolds.{fold-Argument, fold-Body, fold-Expr, fold-First, fold-LambdaBody, fold-Statement, fold-Block, fold-Catch, fold-Declaration, fold-Entry, fold-Variable}
use Rattle.typing_worklist.specs.Item as j
use Rattle.typing_worklist.specs.Item.{Item}

-- a list of parts, of which each is counted with an item that goes on behind it
abbrev pub total : List ℕ → ℕ
total [] = 0
total (x ∷ xs) = 2 + x + total xs

-- a part that may be missing
abbrev pub perhaps : Option ℕ → ℕ
perhaps None = 0
perhaps (Some x) = x

-- a node over the weights of its parts
abbrev pub Weighed : (Type 0 → Type 0 → Type 0 → Type 0 → Type 0 → Type 0 → Type 0 → Type 0 → Type 0 → Type 0 → Type 0 → Type 0) → Type 0
Weighed F = F ℕ ℕ ℕ ℕ ℕ ℕ ℕ ℕ ℕ ℕ ℕ

-- Each node weighs twenty more than its parts do.
abbrev pub argument_step : Weighed Argument-F → ℕ
argument_step (Argument-F.Value value) = 20 + value
argument_step (Argument-F.Lambda at parameters body) = 20 + (2 * length parameters + body)
argument_step _ = 20

abbrev pub body_step : Weighed Body-F → ℕ
body_step (Body-F.«Body::Block» block) = 20 + block
body_step (Body-F.Statement statement) = 20 + statement

abbrev pub expression_step : Weighed Expr-F → ℕ
expression_step (Expr-F.Assign operator at target value) = 20 + (target + value)
expression_step (Expr-F.Conditional at condition left right) = 20 + (condition + left + right)
expression_step (Expr-F.Elvis at left right) = 20 + (left + right)
expression_step (Expr-F.Binary operator at left right) = 20 + (left + right)
expression_step (Expr-F.Instanceof at operand of) = 20 + operand
expression_step (Expr-F.Unary operator at operand) = 20 + operand
expression_step (Expr-F.Prefix step at target) = 20 + target
expression_step (Expr-F.Postfix step at target) = 20 + target
expression_step (Expr-F.Cast at of operand) = 20 + operand
expression_step (Expr-F.Bracketed at inner) = 20 + inner
expression_step (Expr-F.List at items) = 20 + total items
expression_step (Expr-F.Map at entries) = 20 + total entries
expression_step (Expr-F.Call at spelling given) = 20 + total given
expression_step (Expr-F.New at of given) = 20 + total given
expression_step (Expr-F.NewArray at of sizes) = 20 + total sizes
expression_step (Expr-F.NewItems at of items) = 20 + total items
expression_step (Expr-F.Member access at receiver spelling) = 20 + receiver
expression_step (Expr-F.Method access at receiver spelling given) = 20 + (receiver + total given)
expression_step (Expr-F.Element access at receiver spelling) = 20 + receiver
expression_step (Expr-F.Index at receiver index) = 20 + (receiver + index)
expression_step _ = 20

abbrev pub first_step : Weighed First-F → ℕ
first_step (First-F.«First::Declare» declaration) = 20 + declaration
first_step (First-F.«First::Expression» value) = 20 + value

abbrev pub lambda_step : Weighed LambdaBody-F → ℕ
lambda_step (LambdaBody-F.«LambdaBody::Block» block) = 20 + block
lambda_step (LambdaBody-F.«LambdaBody::Expression» value) = 20 + value

abbrev pub statement_step : Weighed Statement-F → ℕ
statement_step (Statement-F.If at condition chosen otherwise) = 20 + (condition + chosen + perhaps otherwise)
statement_step (Statement-F.While at condition body) = 20 + (condition + perhaps body)
statement_step (Statement-F.For at first condition update body) = 20 + (perhaps first + perhaps condition + perhaps update + perhaps body)
statement_step (Statement-F.ForEach at of name over body) = 20 + (over + body)
statement_step (Statement-F.ForIn at name over body) = 20 + (over + body)
statement_step (Statement-F.Try at block catches) = 20 + (block + total catches)
statement_step (Statement-F.Do at block condition) = 20 + (block + condition)
statement_step (Statement-F.«Statement::Declare» declaration) = 20 + declaration
statement_step (Statement-F.Return at value) = 20 + perhaps value
statement_step (Statement-F.Throw at value) = 20 + value
statement_step (Statement-F.«Statement::Expression» at value) = 20 + value
statement_step _ = 20

abbrev pub block_step : Weighed Block-F → ℕ
block_step block = 20 + total block.statements

abbrev pub catch_step : Weighed Catch-F → ℕ
catch_step e = 20 + e.block

abbrev pub declaration_step : Weighed Declaration-F → ℕ
declaration_step e = 20 + total e.variables

abbrev pub entry_step : Weighed Entry-F → ℕ
entry_step e = 20 + (e.key + e.value)

abbrev pub variable_step : Weighed Variable-F → ℕ
variable_step e = 20 + perhaps e.value

abbrev pub argument : Argument → ℕ
argument = fold-Argument ℕ ℕ ℕ ℕ ℕ ℕ ℕ ℕ ℕ ℕ ℕ argument_step body_step expression_step first_step lambda_step statement_step block_step catch_step declaration_step entry_step variable_step

abbrev pub body : Body → ℕ
body = fold-Body ℕ ℕ ℕ ℕ ℕ ℕ ℕ ℕ ℕ ℕ ℕ argument_step body_step expression_step first_step lambda_step statement_step block_step catch_step declaration_step entry_step variable_step

abbrev pub expression : Expr → ℕ
expression = fold-Expr ℕ ℕ ℕ ℕ ℕ ℕ ℕ ℕ ℕ ℕ ℕ argument_step body_step expression_step first_step lambda_step statement_step block_step catch_step declaration_step entry_step variable_step

abbrev pub first : First → ℕ
first = fold-First ℕ ℕ ℕ ℕ ℕ ℕ ℕ ℕ ℕ ℕ ℕ argument_step body_step expression_step first_step lambda_step statement_step block_step catch_step declaration_step entry_step variable_step

abbrev pub inner : LambdaBody → ℕ
inner = fold-LambdaBody ℕ ℕ ℕ ℕ ℕ ℕ ℕ ℕ ℕ ℕ ℕ argument_step body_step expression_step first_step lambda_step statement_step block_step catch_step declaration_step entry_step variable_step

abbrev pub statement : Statement → ℕ
statement = fold-Statement ℕ ℕ ℕ ℕ ℕ ℕ ℕ ℕ ℕ ℕ ℕ argument_step body_step expression_step first_step lambda_step statement_step block_step catch_step declaration_step entry_step variable_step

abbrev pub block : Block → ℕ
block = fold-Block ℕ ℕ ℕ ℕ ℕ ℕ ℕ ℕ ℕ ℕ ℕ argument_step body_step expression_step first_step lambda_step statement_step block_step catch_step declaration_step entry_step variable_step

abbrev pub handler : Catch → ℕ
handler = fold-Catch ℕ ℕ ℕ ℕ ℕ ℕ ℕ ℕ ℕ ℕ ℕ argument_step body_step expression_step first_step lambda_step statement_step block_step catch_step declaration_step entry_step variable_step

abbrev pub declaration : Declaration → ℕ
declaration = fold-Declaration ℕ ℕ ℕ ℕ ℕ ℕ ℕ ℕ ℕ ℕ ℕ argument_step body_step expression_step first_step lambda_step statement_step block_step catch_step declaration_step entry_step variable_step

abbrev pub entry : Entry → ℕ
entry = fold-Entry ℕ ℕ ℕ ℕ ℕ ℕ ℕ ℕ ℕ ℕ ℕ argument_step body_step expression_step first_step lambda_step statement_step block_step catch_step declaration_step entry_step variable_step

abbrev pub variable : Variable → ℕ
variable = fold-Variable ℕ ℕ ℕ ℕ ℕ ℕ ℕ ℕ ℕ ℕ ℕ argument_step body_step expression_step first_step lambda_step statement_step block_step catch_step declaration_step entry_step variable_step

abbrev pub expression_if : Option Expr → ℕ
expression_if None = 0
expression_if (Some e) = expression e

abbrev pub argument_if : Option Argument → ℕ
argument_if None = 0
argument_if (Some e) = argument e

abbrev pub body_if : Option Body → ℕ
body_if None = 0
body_if (Some e) = body e

abbrev pub first_if : Option First → ℕ
first_if None = 0
first_if (Some e) = first e

-- What an item weighs: one if nothing is put in its place.
abbrev pub weight_of : Item → ℕ
weight_of (j.Value e) = expression e
weight_of (j.Negated e minus) = 2 + expression e
weight_of (j.Target e by) = 2 + expression e
weight_of (j.Given e) = argument e
weight_of (j.Arguments all i) = 1 + total (map argument (drop i all))
weight_of (j.Call at name all) = 3 + total (map argument all)
weight_of (j.Method at access name all) = 3 + total (map argument all)
weight_of (j.Static at access of name all) = 3 + total (map argument all)
weight_of (j.New at of all) = 3 + total (map argument all)
weight_of (j.Values all i) = 1 + total (map expression (drop i all))
weight_of (j.Entries all i) = 1 + total (map entry (drop i all))
weight_of (j.ListOf at all) = 3 + total (map expression all)
weight_of (j.MapOf at all) = 3 + total (map entry all)
weight_of (j.ArrayOf at of all) = 3 + total (map expression all)
weight_of (j.ArrayWith at of all) = 3 + total (map expression all)
weight_of (j.Statement_ e last) = statement e
weight_of (j.Body_ e) = body e
weight_of (j.Scoped e) = 2 + statement e
weight_of (j.Block_ e) = block e
weight_of (j.Looping e) = 3 + body e
weight_of (j.LoopBody e) = 4 + body_if e
weight_of (j.LoopBlock e) = 3 + block e
weight_of (j.Statements all i in_main after) = 1 + total (map statement (drop i all))
weight_of (j.Reached all i at in_main after) = 2 + total (map statement (drop i all))
weight_of (j.For at first_step_ condition update body_) = 14 + (first_if first_step_ + expression_if condition + expression_if update + body_if body_)
weight_of (j.ForParts at first_step_ condition update body_) = 12 + (first_if first_step_ + expression_if condition + expression_if update + body_if body_)
weight_of (j.ForEach at of name over body_) = 10 + (expression over + body body_)
weight_of (j.ForIn at name over body_) = 10 + (expression over + body body_)
weight_of (j.FirstIf e) = 1 + first_if e
weight_of (j.First_ e) = first e
weight_of (j.Deed e) = 2 + expression e
weight_of (j.Condition e) = 2 + expression_if e
weight_of (j.UpdateIf e) = 3 + expression_if e
weight_of (j.Update e) = 2 + expression e
weight_of (j.Otherwise at e) = 2 + body_if e
weight_of (j.Returned at e) = 2 + argument_if e
weight_of (j.Declaration_ e) = declaration e
weight_of (j.Variables of all i) = 2 + total (map variable (drop i all))
weight_of (j.Variable_ of e) = variable e
weight_of (j.Initial of e) = 2 + argument_if e
weight_of (j.Try at all) = 3 + total (map handler all)
weight_of (j.Catches all i) = 1 + total (map handler (drop i all))
weight_of (j.Catch_ e) = handler e
weight_of (j.Parameters all i) = 1 + 2 * length (drop i all)
weight_of (j.UnbuiltInner e at) = inner e
weight_of _ = 1

abbrev pub weights : List Item → ℕ
weights [] = 0
weights (x ∷ xs) = weight_of x + weights xs
