-- What is to be done for each node, as a list of items.
use Rattle.std.specs.Prelude.{ℕ, ◌+◌, Bool, true, false, ◌&&◌, List, [], ◌∷◌, length, slice_get, Option, Some, None}
use Rattle.pl_tree.specs.declared.operator.Access.{Access}
use Rattle.pl_tree.specs.declared.operator.Access.TheVariants as access
use Rattle.pl_tree.specs.declared.operator.UnaryOperator.{UnaryOperator}
use Rattle.pl_tree.specs.declared.operator.UnaryOperator.TheVariants as sign
use Rattle.pl_tree.specs.declared.tree.Spelled.{Spelled}
use Rattle.pl_tree.specs.declared.tree.TypeName.{TypeName}
use Rattle.pl_tree.specs.declared.tree.Argument.{Argument, out-Argument}
use Rattle.pl_tree.specs.declared.tree.Body.{Body, out-Body}
use Rattle.pl_tree.specs.declared.tree.Expr.{Expr, out-Expr}
use Rattle.pl_tree.specs.declared.tree.First.{First, out-First}
use Rattle.pl_tree.specs.declared.tree.LambdaBody.{LambdaBody, out-LambdaBody}
use Rattle.pl_tree.specs.declared.tree.Statement.{Statement, out-Statement}
use Rattle.pl_tree.specs.declared.tree.Block.{Block, out-Block}
use Rattle.pl_tree.specs.declared.tree.Catch.{Catch, out-Catch}
use Rattle.pl_tree.specs.declared.tree.Declaration.{Declaration, out-Declaration}
use Rattle.pl_tree.specs.declared.tree.Entry.{Entry, out-Entry}
use Rattle.pl_tree.specs.declared.tree.Parameter.{Parameter}
use Rattle.pl_tree.specs.declared.tree.Variable.{Variable, out-Variable}
use Rattle.pl_tree.specs.declared.tree.Argument.TheOpen.{Argument-F, Body-F, Expr-F, First-F, LambdaBody-F, Statement-F, Block-F, Catch-F, Declaration-F}
use Rattle.typed_tree.specs.declared.operation.Gives.TheVariants as g
use Rattle.typing_worklist.specs.declared.item.Act.TheVariants as a
use Rattle.typing_worklist.specs.declared.item.StatementAct.TheVariants as s
use Rattle.typing_worklist.specs.declared.item.ExpressionItem.{ExpressionItem}
use Rattle.typing_worklist.specs.declared.item.ExpressionItem.TheVariants as et
use Rattle.typing_worklist.specs.declared.item.StatementItem.{StatementItem}
use Rattle.typing_worklist.specs.declared.item.StatementItem.TheVariants as st
use Rattle.typing_worklist.specs.declared.item.LoopItem.{LoopItem}
use Rattle.typing_worklist.specs.declared.item.LoopItem.TheVariants as lt
use Rattle.typing_worklist.specs.declared.item.DeclarationItem.{DeclarationItem}
use Rattle.typing_worklist.specs.declared.item.DeclarationItem.TheVariants as dt
use Rattle.typing_worklist.specs.declared.item.CatchItem.{CatchItem}
use Rattle.typing_worklist.specs.declared.item.CatchItem.TheVariants as kt
use Rattle.typing_worklist.specs.declared.item.UnbuiltItem.{UnbuiltItem}
use Rattle.typing_worklist.specs.declared.item.UnbuiltItem.TheVariants as ut
use Rattle.typing_actions.specs.declared.config.Config.{Config}
use Rattle.typing_rules.specs.Typing.{read_at}
use Rattle.typing_worklist.specs.Going.{is_there, none_left}
use Rattle.typing_worklist.specs.Item as j
use Rattle.typing_worklist.specs.Item.{Item}

-- a node over the trees of its parts
abbrev pub Open : (Type 0 → Type 0 → Type 0 → Type 0 → Type 0 → Type 0 → Type 0 → Type 0 → Type 0 → Type 0 → Type 0 → Type 0) → Type 0
Open F = F Argument Body Expr First LambdaBody Statement Block Catch Declaration Entry Variable

abbrev pub unary_plan : UnaryOperator → ℕ → Expr → List Item
unary_plan sign.Minus at operand = j.Negated operand at ∷ []
unary_plan operator at operand = j.Value operand ∷ j.Do (a.Unary at operator) ∷ []

-- the type that an expression is, if it is one
abbrev pub type_in : Open Expr-F → Option TypeName
type_in (Expr-F.Type of) = Some of
type_in _ = None

-- a name, or a call, of a value or of a type
abbrev pub member_plan : Access → ℕ → Expr → Option TypeName → List ℕ → List Item
member_plan access at receiver None name = j.Value receiver ∷ j.Read at access name ∷ []
member_plan access at receiver (Some of) name = j.Field at access of name ∷ []

abbrev pub method_plan : Access → ℕ → Expr → Option TypeName → List ℕ → List Argument → List Item
method_plan access at receiver None name given = j.Value receiver ∷ j.Method at access name given ∷ []
method_plan access at receiver (Some of) name given = j.TypeOf of ∷ j.Static at access of name given ∷ []

-- an element by its number
abbrev pub element_plan : Access → ℕ → Expr → Option TypeName → List ℕ → List Item
element_plan access at receiver None digits = j.Value receiver ∷ j.Numbered at access digits ∷ []
element_plan access at receiver (Some of) digits = j.TypeOf of ∷ j.Do (a.NoMember at) ∷ []

abbrev pub value_plan : Open Expr-F → List Item
value_plan (Expr-F.Assign operator at target value) = j.Target target (read_at at operator) ∷ j.Value value ∷ j.Do (a.Assign at operator) ∷ []
value_plan (Expr-F.Conditional at condition left right) = j.Value condition ∷ j.Value left ∷ j.Value right ∷ j.Do (a.Choice at) ∷ []
value_plan (Expr-F.Elvis at left right) = j.Value left ∷ j.Value right ∷ j.Do (a.Elvis at) ∷ []
value_plan (Expr-F.Binary operator at left right) = j.Value left ∷ j.Value right ∷ j.Do (a.Binary at operator) ∷ []
value_plan (Expr-F.Instanceof at operand of) = j.Value operand ∷ j.InstanceOf at of ∷ []
value_plan (Expr-F.Unary operator at operand) = unary_plan operator at operand
value_plan (Expr-F.Prefix step at target) = j.Target target (Some at) ∷ j.Do (a.Step at step g.New) ∷ []
value_plan (Expr-F.Postfix step at target) = j.Target target (Some at) ∷ j.Do (a.Step at step g.Old) ∷ []
value_plan (Expr-F.Cast at of operand) = j.TypeOf of ∷ j.Value operand ∷ j.Asked at of ∷ []
value_plan (Expr-F.Bracketed at inner) = j.Value inner ∷ j.Do (a.Bracketed at) ∷ []
value_plan (Expr-F.Integer at spelling) = j.Integer at spelling ∷ []
value_plan (Expr-F.Text at spelling) = j.Text at spelling ∷ []
value_plan (Expr-F.Constant constant at) = j.Do (a.Constant at constant) ∷ []
value_plan (Expr-F.List at items) = j.ListOf at items ∷ []
value_plan (Expr-F.Map at entries) = j.MapOf at entries ∷ []
value_plan (Expr-F.Name at spelling) = j.Name at spelling ∷ []
value_plan (Expr-F.Call at spelling given) = j.Call at spelling given ∷ []
value_plan (Expr-F.New at of given) = j.TypeOf of ∷ j.New at of given ∷ []
value_plan (Expr-F.NewArray at of sizes) = j.TypeOf of ∷ j.ArrayOf at of sizes ∷ []
value_plan (Expr-F.NewItems at of items) = j.TypeOf of ∷ j.ArrayWith at of items ∷ []
value_plan (Expr-F.Type of) = j.TypeOf of ∷ j.Do (a.Unbuilt of.at) ∷ []
value_plan (Expr-F.Member access at receiver spelling) = member_plan access at receiver (type_in (out-Expr receiver)) spelling
value_plan (Expr-F.Method access at receiver spelling given) = method_plan access at receiver (type_in (out-Expr receiver)) spelling given
value_plan (Expr-F.Element access at receiver digits) = element_plan access at receiver (type_in (out-Expr receiver)) digits
value_plan (Expr-F.Index at receiver index) = j.Value receiver ∷ j.Value index ∷ j.Indexed at ∷ []

-- a value behind a minus
abbrev pub negated_plan : ℕ → Expr → Open Expr-F → List Item
negated_plan minus e (Expr-F.Integer at spelling) = j.NegatedInteger minus at spelling ∷ []
negated_plan minus e _ = j.Value e ∷ j.Do (a.Unary minus sign.Minus) ∷ []

-- a name behind a dot as what is written to
abbrev pub member_target : Access → ℕ → Expr → Expr → Option TypeName → List ℕ → Option ℕ → List Item
member_target access.Plain at e receiver None name by = j.Value receiver ∷ j.WrittenName at by name ∷ []
member_target access.Plain at e receiver (Some of) name by = j.Value e ∷ j.Do a.Fixed ∷ []
member_target access.Guarded at e receiver type name by = j.Value e ∷ j.Do a.Fixed ∷ []

-- a number behind a dot
abbrev pub element_target : Access → ℕ → Expr → Expr → Option TypeName → List ℕ → Option ℕ → List Item
element_target access.Plain at e receiver None digits by = j.Value receiver ∷ j.WrittenNumber at by digits ∷ []
element_target access.Plain at e receiver (Some of) digits by = j.Value e ∷ j.Do a.Fixed ∷ []
element_target access.Guarded at e receiver type digits by = j.Value e ∷ j.Do a.Fixed ∷ []

-- what is written to
abbrev pub target_plan : Expr → Option ℕ → Open Expr-F → List Item
target_plan e by (Expr-F.Name at spelling) = j.Written at spelling ∷ []
target_plan e by (Expr-F.Member access at receiver spelling) = member_target access at e receiver (type_in (out-Expr receiver)) spelling by
target_plan e by (Expr-F.Element access at receiver digits) = element_target access at e receiver (type_in (out-Expr receiver)) digits by
target_plan e by (Expr-F.Index at receiver index) = j.Value receiver ∷ j.Value index ∷ j.WrittenIndex at by ∷ []
target_plan e by _ = j.Value e ∷ j.Do a.Fixed ∷ []

abbrev pub argument_plan : Open Argument-F → List Item
argument_plan (Argument-F.Value value) = j.Value value ∷ []
argument_plan (Argument-F.Lambda at parameters body) = j.Do a.Enter ∷ j.Parameters parameters 0 ∷ j.UnbuiltInner body at ∷ []
argument_plan (Argument-F.Reference of spelling) = j.TypeOf of ∷ j.Do (a.Unbuilt of.at) ∷ []
argument_plan (Argument-F.NewReference of) = j.TypeOf of ∷ j.Do (a.Unbuilt of.at) ∷ []
argument_plan (Argument-F.ThisReference at spelling) = j.Do (a.Unbuilt at) ∷ []

abbrev pub inner_plan : ℕ → Open LambdaBody-F → List Item
inner_plan at (LambdaBody-F.«LambdaBody::Block» block) = j.Statements (out-Block block).statements 0 false false ∷ j.Do (a.Unbuilt at) ∷ []
inner_plan at (LambdaBody-F.«LambdaBody::Expression» value) = j.Value value ∷ j.Do (a.Unbuilt at) ∷ []

abbrev pub statement_plan : Bool → Open Statement-F → List Item
statement_plan last (Statement-F.If at condition chosen otherwise) = j.Value condition ∷ j.DoStatement s.Test ∷ j.Body_ chosen ∷ j.Otherwise at otherwise ∷ []
statement_plan last (Statement-F.While at condition body) = j.Value condition ∷ j.DoStatement s.LoopTest ∷ j.DoStatement s.NoTest ∷ j.LoopBody body ∷ j.DoStatement (s.Loop at false (is_there body)) ∷ []
statement_plan last (Statement-F.For at first condition update body) = j.For at first condition update body ∷ []
statement_plan last (Statement-F.ForEach at of name over body) = j.ForEach at of name over body ∷ []
statement_plan last (Statement-F.ForIn at name over body) = j.ForIn at name over body ∷ []
statement_plan last (Statement-F.Try at block catches) = j.Block_ block ∷ j.Try at catches ∷ []
statement_plan last (Statement-F.Do at block condition) = j.LoopBlock block ∷ j.Value condition ∷ j.DoStatement s.LoopTest ∷ j.DoStatement (s.DoLoop at) ∷ []
statement_plan last (Statement-F.«Statement::Declare» declaration) = j.Declaration_ declaration ∷ []
statement_plan last (Statement-F.Continue at) = j.DoStatement (s.Continue at) ∷ []
statement_plan last (Statement-F.Break at) = j.DoStatement (s.Break at) ∷ []
statement_plan last (Statement-F.Return at value) = j.Returned at value ∷ []
statement_plan last (Statement-F.Throw at value) = j.Value value ∷ j.DoStatement (s.Throw at) ∷ []
statement_plan last (Statement-F.«Statement::Expression» at value) = j.Value value ∷ j.DoStatement (s.Expression at last) ∷ []

abbrev pub body_plan : Open Body-F → List Item
body_plan (Body-F.«Body::Block» block) = j.Block_ block ∷ []
body_plan (Body-F.Statement statement) = j.Scoped statement ∷ []

abbrev pub first_plan : Open First-F → List Item
first_plan (First-F.«First::Declare» declaration) = j.Declaration_ declaration ∷ []
first_plan (First-F.«First::Expression» value) = j.Deed value ∷ []

abbrev pub loop_body_plan : Option Body → List Item
loop_body_plan None = []
loop_body_plan (Some e) = j.Looping e ∷ []

abbrev pub first_if_plan : Option First → List Item
first_if_plan None = []
first_if_plan (Some e) = j.First_ e ∷ []

abbrev pub condition_plan : Option Expr → List Item
condition_plan None = j.DoStatement s.NoTest ∷ []
condition_plan (Some e) = j.Value e ∷ j.DoStatement s.LoopTest ∷ []

abbrev pub update_if_plan : Option Expr → List Item
update_if_plan None = j.DoStatement s.NoTest ∷ []
update_if_plan (Some e) = j.Update e ∷ []

abbrev pub otherwise_plan : ℕ → Option Body → List Item
otherwise_plan at None = j.DoStatement (s.IfAlone at) ∷ []
otherwise_plan at (Some e) = j.Body_ e ∷ j.DoStatement (s.IfElse at) ∷ []

abbrev pub returned_plan : ℕ → Option Argument → List Item
returned_plan at None = j.DoStatement (s.ReturnNothing at) ∷ []
returned_plan at (Some e) = j.Given e ∷ j.DoStatement (s.ReturnValue at) ∷ []

abbrev pub initial_plan : TypeName → Option Argument → List Item
initial_plan of None = j.DoStatement s.NoTest ∷ []
initial_plan of (Some e) = j.Given e ∷ j.CastInitial of ∷ []

abbrev pub for_plan : ℕ → Option First → Option Expr → Option Expr → Option Body → List Item
for_plan at first condition update body = j.FirstIf first ∷ j.Condition condition ∷ j.UpdateIf update ∷ j.LoopBody body ∷ j.DoStatement (s.Loop at (is_there first) (is_there body)) ∷ []

-- A loop over elements in a scope of its own, where so many names are in sight. Its variable has a type, or is of type def.
abbrev pub each_plan : ℕ → ℕ → TypeName → Spelled → Expr → Body → List Item
each_plan names at of name over body = j.TypeOf of ∷ j.Value over ∷ j.Each at name of ∷ j.Looping body ∷ j.DoStatement (s.EachLoop at) ∷ j.DoStatement (s.Close names) ∷ []

abbrev pub each_def_plan : ℕ → ℕ → Spelled → Expr → Body → List Item
each_def_plan names at name over body = j.Value over ∷ j.EachDef at name ∷ j.Looping body ∷ j.DoStatement (s.EachLoop at) ∷ j.DoStatement (s.Close names) ∷ []

-- a parameter of a function value
abbrev pub parameter_item : Spelled → Option TypeName → Item
parameter_item name None = j.NamedDef name
parameter_item name (Some of) = j.Named name of

abbrev pub variable_plan : TypeName → Variable → List Item
variable_plan of e = j.TypeOf of ∷ j.Initial of (out-Variable e).value ∷ j.Declare (out-Variable e).name of ∷ []

-- Parts from one on: this one, and then the rest.
abbrev pub arguments_plan : List Argument → ℕ → Option Argument → List Item
arguments_plan all i None = []
arguments_plan all i (Some one) = j.Given one ∷ j.Arguments all (i + 1) ∷ []

abbrev pub variables_plan : TypeName → List Variable → ℕ → Option Variable → List Item
variables_plan of all i None = j.TypeOf of ∷ []
variables_plan of all i (Some one) = j.Variable_ of one ∷ j.Variables of all (i + 1) ∷ []

abbrev pub catches_plan : List Catch → ℕ → Option Catch → List Item
catches_plan all i None = []
catches_plan all i (Some one) = j.Catch_ one ∷ j.Catches all (i + 1) ∷ []

abbrev pub parameters_plan : List Parameter → ℕ → Option Parameter → List Item
parameters_plan all i None = []
parameters_plan all i (Some one) = parameter_item one.name one.of ∷ j.Parameters all (i + 1) ∷ []

abbrev pub values_plan : List Expr → ℕ → Option Expr → List Item
values_plan all i None = []
values_plan all i (Some one) = j.Value one ∷ j.Values all (i + 1) ∷ []

abbrev pub entries_plan : List Entry → ℕ → Option Entry → List Item
entries_plan all i None = []
entries_plan all i (Some one) = j.Value (out-Entry one).key ∷ j.Value (out-Entry one).value ∷ j.Entries all (i + 1) ∷ []

-- where a statement stands
abbrev pub statement_place : Open Statement-F → ℕ
statement_place (Statement-F.If at condition chosen otherwise) = at
statement_place (Statement-F.While at condition body) = at
statement_place (Statement-F.For at first condition update body) = at
statement_place (Statement-F.ForEach at of name over body) = at
statement_place (Statement-F.ForIn at name over body) = at
statement_place (Statement-F.Try at block catches) = at
statement_place (Statement-F.Do at block condition) = at
statement_place (Statement-F.«Statement::Declare» declaration) = (out-Declaration declaration).of.at
statement_place (Statement-F.Continue at) = at
statement_place (Statement-F.Break at) = at
statement_place (Statement-F.Return at value) = at
statement_place (Statement-F.Throw at value) = at
statement_place (Statement-F.«Statement::Expression» at value) = at

-- Statements from one on: this one, which may be the last of the main script, and then what is behind it.
abbrev pub statements_plan : List Statement → ℕ → Bool → Bool → Option Statement → List Item
statements_plan all i in_main after None = []
statements_plan all i in_main after (Some one) =
    j.Statement_ one (in_main && none_left (slice_get all (i + 1))) ∷ j.Reached all (i + 1) (statement_place (out-Statement one)) in_main after ∷ []

-- a block in a scope of its own, where so many names are in sight and so many steps are done
abbrev pub block_plan : ℕ → ℕ → Open Block-F → List Item
block_plan names steps block = j.Statements block.statements 0 false false ∷ j.DoStatement (s.Close names) ∷ j.DoStatement (s.Block block.at steps) ∷ []

abbrev pub declaration_plan : ℕ → Open Declaration-F → List Item
declaration_plan variables e = j.Variables e.of e.variables 0 ∷ j.DoStatement (s.Declaration e.of.at variables) ∷ []

-- a catch: its name, its block, and then the catch
abbrev pub catch_plan : ℕ → ℕ → Open Catch-F → List Item
catch_plan names steps e =
    j.Catching e.of e.name ∷ j.Statements (out-Block e.block).statements 0 false false ∷ j.DoStatement (s.Block (out-Block e.block).at steps) ∷ j.Caught e.at e.of e.name.spelling ∷ j.DoStatement (s.Close names) ∷ []

-- What is put in the place of each item, in what is known.
abbrev pub expression_items : Config → ExpressionItem → List Item
expression_items c (et.Value x) = value_plan (out-Expr x.now)
expression_items c (et.Negated x minus) = negated_plan minus x.now (out-Expr x.now)
expression_items c (et.Target x by) = target_plan x.now by (out-Expr x.now)
expression_items c (et.Given x) = argument_plan (out-Argument x.now)
expression_items c (et.Arguments all i) = arguments_plan all.now i (slice_get all.now i)
expression_items c (et.Call at name all) = j.Arguments all.now 0 ∷ j.Called at name.now (length c.parts) ∷ []
expression_items c (et.Method at access name all) = j.Arguments all.now 0 ∷ j.MethodCalled at access name.now (length c.parts) ∷ []
expression_items c (et.Static at access of name all) = j.Arguments all.now 0 ∷ j.StaticCalled at access of.now name.now (length c.parts) ∷ []
expression_items c (et.New at of all) = j.Arguments all.now 0 ∷ j.Made at of.now (length c.parts) ∷ []
expression_items c (et.Values all i) = values_plan all.now i (slice_get all.now i)
expression_items c (et.Entries all i) = entries_plan all.now i (slice_get all.now i)
expression_items c (et.List at all) = j.Values all.now 0 ∷ j.Do (a.List at (length c.parts)) ∷ []
expression_items c (et.Map at all) = j.Entries all.now 0 ∷ j.Do (a.Map at (length c.parts)) ∷ []
expression_items c (et.Array at of all) = j.Values all.now 0 ∷ j.ArrayMade at of.now (length c.parts) ∷ []
expression_items c (et.ArrayWith at of all) = j.Values all.now 0 ∷ j.ArrayFilled at of.now (length c.parts) ∷ []

abbrev pub statement_items : Config → StatementItem → List Item
statement_items c (st.One x last) = statement_plan last (out-Statement x.now)
statement_items c (st.Body x) = body_plan (out-Body x.now)
statement_items c (st.Scoped x) = j.Statement_ x.now false ∷ j.DoStatement (s.Close (length c.state.scopes)) ∷ []
statement_items c (st.Block x) = block_plan (length c.state.scopes) (length c.steps) (out-Block x.now)
statement_items c (st.Statements all i in_main after) = statements_plan all.now i in_main after (slice_get all.now i)
statement_items c (st.Otherwise at x) = otherwise_plan at x.now
statement_items c (st.Returned at x) = returned_plan at x.now

abbrev pub loop_items : Config → LoopItem → List Item
loop_items c (lt.Looping x) = j.DoStatement (s.Looped true) ∷ j.Body_ x.now ∷ j.DoStatement (s.Looped c.state.looped) ∷ []
loop_items c (lt.Body x) = loop_body_plan x.now
loop_items c (lt.Block x) = j.DoStatement (s.Looped true) ∷ j.Block_ x.now ∷ j.DoStatement (s.Looped c.state.looped) ∷ []
loop_items c (lt.For at first condition update body) = j.ForParts at first.now condition.now update.now body.now ∷ j.DoStatement (s.Close (length c.state.scopes)) ∷ []
loop_items c (lt.ForParts at first condition update body) = for_plan at first.now condition.now update.now body.now
loop_items c (lt.Each at of name over body) = each_plan (length c.state.scopes) at of.now name.now over.now body.now
loop_items c (lt.EachDef at name over body) = each_def_plan (length c.state.scopes) at name.now over.now body.now
loop_items c (lt.FirstIf x) = first_if_plan x.now
loop_items c (lt.First x) = first_plan (out-First x.now)
loop_items c (lt.Deed x) = j.Value x.now ∷ j.Begun x.now ∷ []
loop_items c (lt.Condition x) = condition_plan x.now
loop_items c (lt.UpdateIf x) = update_if_plan x.now
loop_items c (lt.Update x) = j.Value x.now ∷ j.Updated x.now ∷ []

abbrev pub declaration_items : Config → DeclarationItem → List Item
declaration_items c (dt.Whole x) = declaration_plan (length c.variables) (out-Declaration x.now)
declaration_items c (dt.Variables of all i) = variables_plan of.now all.now i (slice_get all.now i)
declaration_items c (dt.Variable of x) = variable_plan of.now x.now
declaration_items c (dt.Initial of x) = initial_plan of.now x.now

abbrev pub catch_items : Config → CatchItem → List Item
catch_items c (kt.Try at all) = j.Catches all.now 0 ∷ j.DoStatement (s.Try at (length c.catches)) ∷ []
catch_items c (kt.All all i) = catches_plan all.now i (slice_get all.now i)
catch_items c (kt.One x) = catch_plan (length c.state.scopes) (length c.steps) (out-Catch x.now)

abbrev pub unbuilt_items : UnbuiltItem → List Item
unbuilt_items (ut.Parameters all i) = parameters_plan all.now i (slice_get all.now i)
unbuilt_items (ut.Inner x at) = inner_plan at (out-LambdaBody x.now)

-- The first token of an expression is that of the expression at its left end, or its own.
abbrev pub left_of : Open Expr-F → Option Expr
left_of (Expr-F.Assign operator at target value) = Some target
left_of (Expr-F.Conditional at condition left right) = Some condition
left_of (Expr-F.Elvis at left right) = Some left
left_of (Expr-F.Binary operator at left right) = Some left
left_of (Expr-F.Instanceof at operand of) = Some operand
left_of (Expr-F.Member access at receiver spelling) = Some receiver
left_of (Expr-F.Method access at receiver spelling given) = Some receiver
left_of (Expr-F.Element access at receiver spelling) = Some receiver
left_of (Expr-F.Index at receiver index) = Some receiver
left_of _ = None

abbrev pub place_of : Open Expr-F → ℕ
place_of (Expr-F.Assign operator at target value) = at
place_of (Expr-F.Conditional at condition left right) = at
place_of (Expr-F.Elvis at left right) = at
place_of (Expr-F.Binary operator at left right) = at
place_of (Expr-F.Instanceof at operand of) = at
place_of (Expr-F.Unary operator at operand) = at
place_of (Expr-F.Prefix step at target) = at
place_of (Expr-F.Postfix step at target) = at
place_of (Expr-F.Cast at of operand) = at
place_of (Expr-F.Bracketed at inner) = at
place_of (Expr-F.Integer at spelling) = at
place_of (Expr-F.Text at spelling) = at
place_of (Expr-F.Constant constant at) = at
place_of (Expr-F.List at items) = at
place_of (Expr-F.Map at entries) = at
place_of (Expr-F.Name at spelling) = at
place_of (Expr-F.Call at spelling given) = at
place_of (Expr-F.New at of given) = at
place_of (Expr-F.NewArray at of sizes) = at
place_of (Expr-F.NewItems at of items) = at
place_of (Expr-F.Type of) = of.at
place_of (Expr-F.Member access at receiver spelling) = at
place_of (Expr-F.Method access at receiver spelling given) = at
place_of (Expr-F.Element access at receiver spelling) = at
place_of (Expr-F.Index at receiver index) = at
