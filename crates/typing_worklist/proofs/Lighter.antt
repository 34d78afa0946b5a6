-- What is put in the place of each item weighs less than the item.
use Rattle.std.proofs.Common.{◌≡◌, ◌<◌, ℕ, suc, ◌+◌, ◌*◌, Bool, List, [], ◌∷◌, ◌++◌, drop, length, map, slice_get, Option, Some, None, refl, sym, ap, subst, ◌∙◌, arith}
use Rattle.pl_tree.specs.declared.operator.Access.{Access}
use Rattle.pl_tree.specs.declared.operator.Access.TheVariants as access
use Rattle.pl_tree.specs.declared.operator.UnaryOperator.TheVariants as sign
use Rattle.pl_tree.specs.declared.tree.Argument.{Argument, out-Argument}
use Rattle.pl_tree.specs.declared.tree.Body.{Body, out-Body}
use Rattle.pl_tree.specs.declared.tree.Block.{Block, out-Block}
use Rattle.pl_tree.specs.declared.tree.Catch.{Catch, out-Catch}
use Rattle.pl_tree.specs.declared.tree.Declaration.{Declaration, out-Declaration}
use Rattle.pl_tree.specs.declared.tree.Entry.{Entry, out-Entry}
use Rattle.pl_tree.specs.declared.tree.Expr.{Expr, out-Expr}
use Rattle.pl_tree.specs.declared.tree.First.{First, out-First}
use Rattle.pl_tree.specs.declared.tree.LambdaBody.{LambdaBody, out-LambdaBody}
use Rattle.pl_tree.specs.declared.tree.Parameter.{Parameter}
use Rattle.pl_tree.specs.declared.tree.Spelled.{Spelled}
use Rattle.pl_tree.specs.declared.tree.Statement.{Statement, out-Statement}
use Rattle.pl_tree.specs.declared.tree.TypeName.{TypeName}
use Rattle.pl_tree.specs.declared.tree.Variable.{Variable, out-Variable}
use Rattle.pl_tree.specs.declared.tree.Argument.TheOpen.{Argument-F, Body-F, Expr-F, First-F, LambdaBody-F, Statement-F}
use Rattle.typing_actions.specs.declared.config.Config.{Config}
use Rattle.typing_worklist.specs.declared.item.BindingItem.{BindingItem}
use Rattle.typing_worklist.specs.declared.item.BindingItem.TheVariants as b
use Rattle.typing_worklist.specs.declared.item.CatchItem.{CatchItem}
use Rattle.typing_worklist.specs.declared.item.CatchItem.TheVariants as k
use Rattle.typing_worklist.specs.declared.item.DeclarationItem.{DeclarationItem}
use Rattle.typing_worklist.specs.declared.item.DeclarationItem.TheVariants as d
use Rattle.typing_worklist.specs.declared.item.ExpressionItem.{ExpressionItem}
use Rattle.typing_worklist.specs.declared.item.ExpressionItem.TheVariants as e
use Rattle.typing_worklist.specs.declared.item.LoopItem.{LoopItem}
use Rattle.typing_worklist.specs.declared.item.LoopItem.TheVariants as l
use Rattle.typing_worklist.specs.declared.item.StatementItem.{StatementItem}
use Rattle.typing_worklist.specs.declared.item.StatementItem.TheVariants as s
use Rattle.typing_worklist.specs.declared.item.UnbuiltItem.{UnbuiltItem}
use Rattle.typing_worklist.specs.declared.item.UnbuiltItem.TheVariants as u
use Rattle.typing_worklist.specs.declared.item.WordItem.{WordItem}
use Rattle.typing_worklist.specs.declared.item.WordItem.TheVariants as v
use Rattle.typing_worklist.specs.Item.{Item}
use Rattle.typing_worklist.specs.Items.{expression_item, word_item, binding_item, statement_item, loop_item, declaration_item, catch_item, unbuilt_item}
use Rattle.typing_worklist.specs.Plans.{Open, type_in, member_plan, method_plan, element_plan, value_plan, negated_plan, member_target, element_target, target_plan, argument_plan, inner_plan, statement_plan, body_plan, first_plan, loop_body_plan, first_if_plan, condition_plan, update_if_plan, otherwise_plan, returned_plan, initial_plan, parameter_item, arguments_plan, variables_plan, catches_plan, parameters_plan, values_plan, entries_plan, statements_plan, expression_items, statement_items, loop_items, declaration_items, catch_items, unbuilt_items}
use Rattle.typing_worklist.specs.Weights.{total, argument_step, variable_step, expression_step, statement_step, body_step, first_step, lambda_step, argument, argument_if, body, body_if, expression, expression_if, first, first_if, inner, statement, block, handler, declaration, entry, variable, weight_of, weights}
use Rattle.typing_worklist.proofs.Goings.{drop_one}
use Rattle.typing_worklist.proofs.Weighed as w

-- Expressions.
member_lighter : (access : Access) (at : ℕ) (receiver : Expr) (type : Option TypeName) (name : List ℕ) → weights (member_plan access at receiver type name) < 20 + expression receiver
member_lighter access at receiver None name = omega arith
member_lighter access at receiver (Some of) name = omega arith

method_lighter : (access : Access) (at : ℕ) (receiver : Expr) (type : Option TypeName) (name : List ℕ) (given : List Argument)
    → weights (method_plan access at receiver type name given) < 20 + (expression receiver + total (map argument given))
method_lighter access at receiver None name given = omega arith
method_lighter access at receiver (Some of) name given = omega arith

element_lighter : (access : Access) (at : ℕ) (receiver : Expr) (type : Option TypeName) (digits : List ℕ) → weights (element_plan access at receiver type digits) < 20 + expression receiver
element_lighter access at receiver None digits = omega arith
element_lighter access at receiver (Some of) digits = omega arith

value_by : (y : Open Expr-F) → weights (value_plan y) < expression_step (w.expression_over y)
value_by (Expr-F.Assign operator at target value) = let under : weights (value_plan (Expr-F.Assign operator at target value)) < 20 + (expression target + expression value) = omega arith in under
value_by (Expr-F.Conditional at condition left right) = let under : weights (value_plan (Expr-F.Conditional at condition left right)) < 20 + (expression condition + expression left + expression right) = omega arith in under
value_by (Expr-F.Elvis at left right) = let under : weights (value_plan (Expr-F.Elvis at left right)) < 20 + (expression left + expression right) = omega arith in under
value_by (Expr-F.Binary operator at left right) = let under : weights (value_plan (Expr-F.Binary operator at left right)) < 20 + (expression left + expression right) = omega arith in under
value_by (Expr-F.Instanceof at operand of) = let under : weights (value_plan (Expr-F.Instanceof at operand of)) < 20 + expression operand = omega arith in under
value_by (Expr-F.Unary sign.Plus at operand) = let under : weights (value_plan (Expr-F.Unary sign.Plus at operand)) < 20 + expression operand = omega arith in under
value_by (Expr-F.Unary sign.Minus at operand) = let under : weights (value_plan (Expr-F.Unary sign.Minus at operand)) < 20 + expression operand = omega arith in under
value_by (Expr-F.Unary sign.Not at operand) = let under : weights (value_plan (Expr-F.Unary sign.Not at operand)) < 20 + expression operand = omega arith in under
value_by (Expr-F.Unary sign.Complement at operand) = let under : weights (value_plan (Expr-F.Unary sign.Complement at operand)) < 20 + expression operand = omega arith in under
value_by (Expr-F.Prefix step at target) = let under : weights (value_plan (Expr-F.Prefix step at target)) < 20 + expression target = omega arith in under
value_by (Expr-F.Postfix step at target) = let under : weights (value_plan (Expr-F.Postfix step at target)) < 20 + expression target = omega arith in under
value_by (Expr-F.Cast at of operand) = let under : weights (value_plan (Expr-F.Cast at of operand)) < 20 + expression operand = omega arith in under
value_by (Expr-F.Bracketed at operand) = let under : weights (value_plan (Expr-F.Bracketed at operand)) < 20 + expression operand = omega arith in under
value_by (Expr-F.Integer at spelling) = omega arith
value_by (Expr-F.Text at spelling) = omega arith
value_by (Expr-F.Constant constant at) = omega arith
value_by (Expr-F.List at items) = let under : weights (value_plan (Expr-F.List at items)) < 20 + total (map expression items) = omega arith in under
value_by (Expr-F.Map at entries) = let under : weights (value_plan (Expr-F.Map at entries)) < 20 + total (map entry entries) = omega arith in under
value_by (Expr-F.Name at spelling) = omega arith
value_by (Expr-F.Call at spelling given) = let under : weights (value_plan (Expr-F.Call at spelling given)) < 20 + total (map argument given) = omega arith in under
value_by (Expr-F.New at of given) = let under : weights (value_plan (Expr-F.New at of given)) < 20 + total (map argument given) = omega arith in under
value_by (Expr-F.NewArray at of sizes) = let under : weights (value_plan (Expr-F.NewArray at of sizes)) < 20 + total (map expression sizes) = omega arith in under
value_by (Expr-F.NewItems at of items) = let under : weights (value_plan (Expr-F.NewItems at of items)) < 20 + total (map expression items) = omega arith in under
value_by (Expr-F.Type of) = omega arith
value_by (Expr-F.Member access at receiver spelling) = member_lighter access at receiver (type_in (out-Expr receiver)) spelling
value_by (Expr-F.Method access at receiver spelling given) = method_lighter access at receiver (type_in (out-Expr receiver)) spelling given
value_by (Expr-F.Element access at receiver digits) = element_lighter access at receiver (type_in (out-Expr receiver)) digits
value_by (Expr-F.Index at receiver index) = let under : weights (value_plan (Expr-F.Index at receiver index)) < 20 + (expression receiver + expression index) = omega arith in under

value_lighter : (x : Expr) → weights (value_plan (out-Expr x)) < expression x
value_lighter x = subst (λ n. weights (value_plan (out-Expr x)) < n) (sym (w.expression_weighs x)) (value_by (out-Expr x))

negated_by : (minus : ℕ) (x : Expr) (y : Open Expr-F) → weights (negated_plan minus x y) < 2 + expression x
negated_by minus x (Expr-F.Assign operator at target value) = omega arith
negated_by minus x (Expr-F.Conditional at condition left right) = omega arith
negated_by minus x (Expr-F.Elvis at left right) = omega arith
negated_by minus x (Expr-F.Binary operator at left right) = omega arith
negated_by minus x (Expr-F.Instanceof at operand of) = omega arith
negated_by minus x (Expr-F.Unary operator at operand) = omega arith
negated_by minus x (Expr-F.Prefix step at target) = omega arith
negated_by minus x (Expr-F.Postfix step at target) = omega arith
negated_by minus x (Expr-F.Cast at of operand) = omega arith
negated_by minus x (Expr-F.Bracketed at operand) = omega arith
negated_by minus x (Expr-F.Integer at spelling) = omega arith
negated_by minus x (Expr-F.Text at spelling) = omega arith
negated_by minus x (Expr-F.Constant constant at) = omega arith
negated_by minus x (Expr-F.List at items) = omega arith
negated_by minus x (Expr-F.Map at entries) = omega arith
negated_by minus x (Expr-F.Name at spelling) = omega arith
negated_by minus x (Expr-F.Call at spelling given) = omega arith
negated_by minus x (Expr-F.New at of given) = omega arith
negated_by minus x (Expr-F.NewArray at of sizes) = omega arith
negated_by minus x (Expr-F.NewItems at of items) = omega arith
negated_by minus x (Expr-F.Type of) = omega arith
negated_by minus x (Expr-F.Member access at receiver spelling) = omega arith
negated_by minus x (Expr-F.Method access at receiver spelling given) = omega arith
negated_by minus x (Expr-F.Element access at receiver spelling) = omega arith
negated_by minus x (Expr-F.Index at receiver index) = omega arith

-- what is written to
target_member : (access : Access) (at : ℕ) (x receiver : Expr) (type : Option TypeName) (name : List ℕ) (by : Option ℕ) → expression x ≡ 20 + expression receiver → weights (member_target access at x receiver type name by) < 2 + expression x
target_member access.Plain at x receiver None name by is = omega (arith, is)
target_member access.Plain at x receiver (Some of) name by is = omega arith
target_member access.Guarded at x receiver type name by is = omega arith

target_element : (access : Access) (at : ℕ) (x receiver : Expr) (type : Option TypeName) (digits : List ℕ) (by : Option ℕ) → expression x ≡ 20 + expression receiver → weights (element_target access at x receiver type digits by) < 2 + expression x
target_element access.Plain at x receiver None digits by is = omega (arith, is)
target_element access.Plain at x receiver (Some of) digits by is = omega arith
target_element access.Guarded at x receiver type digits by is = omega arith

target_index : (at : ℕ) (x receiver index : Expr) (by : Option ℕ) → expression x ≡ 20 + (expression receiver + expression index) → weights (target_plan x by (Expr-F.Index at receiver index)) < 2 + expression x
target_index at x receiver index by is = omega (arith, is)

target_by : (x : Expr) (by : Option ℕ) (y : Open Expr-F) → expression x ≡ expression_step (w.expression_over y) → weights (target_plan x by y) < 2 + expression x
target_by x by (Expr-F.Assign operator at target value) is = omega arith
target_by x by (Expr-F.Conditional at condition left right) is = omega arith
target_by x by (Expr-F.Elvis at left right) is = omega arith
target_by x by (Expr-F.Binary operator at left right) is = omega arith
target_by x by (Expr-F.Instanceof at operand of) is = omega arith
target_by x by (Expr-F.Unary operator at operand) is = omega arith
target_by x by (Expr-F.Prefix step at target) is = omega arith
target_by x by (Expr-F.Postfix step at target) is = omega arith
target_by x by (Expr-F.Cast at of operand) is = omega arith
target_by x by (Expr-F.Bracketed at operand) is = omega arith
target_by x by (Expr-F.Integer at spelling) is = omega arith
target_by x by (Expr-F.Text at spelling) is = omega arith
target_by x by (Expr-F.Constant constant at) is = omega arith
target_by x by (Expr-F.List at items) is = omega arith
target_by x by (Expr-F.Map at entries) is = omega arith
target_by x by (Expr-F.Name at spelling) is = omega arith
target_by x by (Expr-F.Call at spelling given) is = omega arith
target_by x by (Expr-F.New at of given) is = omega arith
target_by x by (Expr-F.NewArray at of sizes) is = omega arith
target_by x by (Expr-F.NewItems at of items) is = omega arith
target_by x by (Expr-F.Type of) is = omega arith
target_by x by (Expr-F.Member access at receiver spelling) is = target_member access at x receiver (type_in (out-Expr receiver)) spelling by is
target_by x by (Expr-F.Method access at receiver spelling given) is = omega arith
target_by x by (Expr-F.Element access at receiver digits) is = target_element access at x receiver (type_in (out-Expr receiver)) digits by is
target_by x by (Expr-F.Index at receiver index) is = target_index at x receiver index by is

-- Parts that others hold.
block_is : (x : Block) → block x ≡ 20 + total (map statement (out-Block x).statements)
block_is x = w.block_weighs x

handler_is : (x : Catch) → handler x ≡ 20 + block (out-Catch x).block
handler_is x = w.handler_weighs x

declaration_is : (x : Declaration) → declaration x ≡ 20 + total (map variable (out-Declaration x).variables)
declaration_is x = w.declaration_weighs x

entry_is : (x : Entry) → entry x ≡ 20 + (expression (out-Entry x).key + expression (out-Entry x).value)
entry_is x = w.entry_weighs x

variable_by : (name : Spelled) (value : Option Argument) → variable_step (w.variable_over (record { name = name; value = value })) ≡ 20 + argument_if value
variable_by name None = refl
variable_by name (Some value) = refl

variable_is : (x : Variable) → variable x ≡ 20 + argument_if (out-Variable x).value
variable_is x = w.variable_weighs x ∙ variable_by (out-Variable x).name (out-Variable x).value

argument_by : (y : Open Argument-F) → weights (argument_plan y) < argument_step (w.argument_over y)
argument_by (Argument-F.Value value) = let under : weights (argument_plan (Argument-F.Value value)) < 20 + expression value = omega arith in under
argument_by (Argument-F.Lambda at parameters body_) = let under : weights (argument_plan (Argument-F.Lambda at parameters body_)) < 20 + (2 * length parameters + inner body_) = omega arith in under
argument_by (Argument-F.Reference of spelling) = omega arith
argument_by (Argument-F.NewReference of) = omega arith
argument_by (Argument-F.ThisReference at spelling) = omega arith

argument_lighter : (x : Argument) → weights (argument_plan (out-Argument x)) < argument x
argument_lighter x = subst (λ n. weights (argument_plan (out-Argument x)) < n) (sym (w.argument_weighs x)) (argument_by (out-Argument x))

inner_by : (at : ℕ) (y : Open LambdaBody-F) → weights (inner_plan at y) < lambda_step (w.inner_over y)
inner_by at (LambdaBody-F.«LambdaBody::Block» block_) =
    let is : block block_ ≡ 20 + total (map statement (out-Block block_).statements) = block_is block_ in
    let under : weights (inner_plan at (LambdaBody-F.«LambdaBody::Block» block_)) < 20 + block block_ = omega (arith, is) in under
inner_by at (LambdaBody-F.«LambdaBody::Expression» value) = let under : weights (inner_plan at (LambdaBody-F.«LambdaBody::Expression» value)) < 20 + expression value = omega arith in under

inner_lighter : (at : ℕ) (x : LambdaBody) → weights (inner_plan at (out-LambdaBody x)) < inner x
inner_lighter at x = subst (λ n. weights (inner_plan at (out-LambdaBody x)) < n) (sym (w.inner_weighs x)) (inner_by at (out-LambdaBody x))

body_by : (y : Open Body-F) → weights (body_plan y) < body_step (w.body_over y)
body_by (Body-F.«Body::Block» block_) = let under : weights (body_plan (Body-F.«Body::Block» block_)) < 20 + block block_ = omega arith in under
body_by (Body-F.Statement statement_) = let under : weights (body_plan (Body-F.Statement statement_)) < 20 + statement statement_ = omega arith in under

body_lighter : (x : Body) → weights (body_plan (out-Body x)) < body x
body_lighter x = subst (λ n. weights (body_plan (out-Body x)) < n) (sym (w.body_weighs x)) (body_by (out-Body x))

first_by : (y : Open First-F) → weights (first_plan y) < first_step (w.first_over y)
first_by (First-F.«First::Declare» declaration_) = let under : weights (first_plan (First-F.«First::Declare» declaration_)) < 20 + declaration declaration_ = omega arith in under
first_by (First-F.«First::Expression» value) = let under : weights (first_plan (First-F.«First::Expression» value)) < 20 + expression value = omega arith in under

first_lighter : (x : First) → weights (first_plan (out-First x)) < first x
first_lighter x = subst (λ n. weights (first_plan (out-First x)) < n) (sym (w.first_weighs x)) (first_by (out-First x))

-- Statements.
statement_by : (last : Bool) (y : Open Statement-F) → weights (statement_plan last y) < statement_step (w.statement_over y)
statement_by last (Statement-F.If at condition chosen None) = let under : weights (statement_plan last (Statement-F.If at condition chosen None)) < 20 + (expression condition + body chosen + 0) = omega arith in under
statement_by last (Statement-F.If at condition chosen (Some otherwise)) = let under : weights (statement_plan last (Statement-F.If at condition chosen (Some otherwise))) < 20 + (expression condition + body chosen + body otherwise) = omega arith in under
statement_by last (Statement-F.While at condition None) = let under : weights (statement_plan last (Statement-F.While at condition None)) < 20 + (expression condition + 0) = omega arith in under
statement_by last (Statement-F.While at condition (Some body_)) = let under : weights (statement_plan last (Statement-F.While at condition (Some body_))) < 20 + (expression condition + body body_) = omega arith in under
statement_by last (Statement-F.For at None None None None) = let under : weights (statement_plan last (Statement-F.For at None None None None)) < 20 + (0 + 0 + 0 + 0) = omega arith in under
statement_by last (Statement-F.For at None None None (Some body_)) = let under : weights (statement_plan last (Statement-F.For at None None None (Some body_))) < 20 + (0 + 0 + 0 + body body_) = omega arith in under
statement_by last (Statement-F.For at None None (Some update) None) = let under : weights (statement_plan last (Statement-F.For at None None (Some update) None)) < 20 + (0 + 0 + expression update + 0) = omega arith in under
statement_by last (Statement-F.For at None None (Some update) (Some body_)) = let under : weights (statement_plan last (Statement-F.For at None None (Some update) (Some body_))) < 20 + (0 + 0 + expression update + body body_) = omega arith in under
statement_by last (Statement-F.For at None (Some condition) None None) = let under : weights (statement_plan last (Statement-F.For at None (Some condition) None None)) < 20 + (0 + expression condition + 0 + 0) = omega arith in under
statement_by last (Statement-F.For at None (Some condition) None (Some body_)) = let under : weights (statement_plan last (Statement-F.For at None (Some condition) None (Some body_))) < 20 + (0 + expression condition + 0 + body body_) = omega arith in under
statement_by last (Statement-F.For at None (Some condition) (Some update) None) = let under : weights (statement_plan last (Statement-F.For at None (Some condition) (Some update) None)) < 20 + (0 + expression condition + expression update + 0) = omega arith in under
statement_by last (Statement-F.For at None (Some condition) (Some update) (Some body_)) = let under : weights (statement_plan last (Statement-F.For at None (Some condition) (Some update) (Some body_))) < 20 + (0 + expression condition + expression update + body body_) = omega arith in under
statement_by last (Statement-F.For at (Some first_) None None None) = let under : weights (statement_plan last (Statement-F.For at (Some first_) None None None)) < 20 + (first first_ + 0 + 0 + 0) = omega arith in under
statement_by last (Statement-F.For at (Some first_) None None (Some body_)) = let under : weights (statement_plan last (Statement-F.For at (Some first_) None None (Some body_))) < 20 + (first first_ + 0 + 0 + body body_) = omega arith in under
statement_by last (Statement-F.For at (Some first_) None (Some update) None) = let under : weights (statement_plan last (Statement-F.For at (Some first_) None (Some update) None)) < 20 + (first first_ + 0 + expression update + 0) = omega arith in under
statement_by last (Statement-F.For at (Some first_) None (Some update) (Some body_)) = let under : weights (statement_plan last (Statement-F.For at (Some first_) None (Some update) (Some body_))) < 20 + (first first_ + 0 + expression update + body body_) = omega arith in under
statement_by last (Statement-F.For at (Some first_) (Some condition) None None) = let under : weights (statement_plan last (Statement-F.For at (Some first_) (Some condition) None None)) < 20 + (first first_ + expression condition + 0 + 0) = omega arith in under
statement_by last (Statement-F.For at (Some first_) (Some condition) None (Some body_)) = let under : weights (statement_plan last (Statement-F.For at (Some first_) (Some condition) None (Some body_))) < 20 + (first first_ + expression condition + 0 + body body_) = omega arith in under
statement_by last (Statement-F.For at (Some first_) (Some condition) (Some update) None) = let under : weights (statement_plan last (Statement-F.For at (Some first_) (Some condition) (Some update) None)) < 20 + (first first_ + expression condition + expression update + 0) = omega arith in under
statement_by last (Statement-F.For at (Some first_) (Some condition) (Some update) (Some body_)) = let under : weights (statement_plan last (Statement-F.For at (Some first_) (Some condition) (Some update) (Some body_))) < 20 + (first first_ + expression condition + expression update + body body_) = omega arith in under
statement_by last (Statement-F.ForEach at of name over body_) = let under : weights (statement_plan last (Statement-F.ForEach at of name over body_)) < 20 + (expression over + body body_) = omega arith in under
statement_by last (Statement-F.ForIn at name over body_) = let under : weights (statement_plan last (Statement-F.ForIn at name over body_)) < 20 + (expression over + body body_) = omega arith in under
statement_by last (Statement-F.Try at block_ catches) = let under : weights (statement_plan last (Statement-F.Try at block_ catches)) < 20 + (block block_ + total (map handler catches)) = omega arith in under
statement_by last (Statement-F.Do at block_ condition) = let under : weights (statement_plan last (Statement-F.Do at block_ condition)) < 20 + (block block_ + expression condition) = omega arith in under
statement_by last (Statement-F.«Statement::Declare» declaration_) = let under : weights (statement_plan last (Statement-F.«Statement::Declare» declaration_)) < 20 + declaration declaration_ = omega arith in under
statement_by last (Statement-F.Continue at) = omega arith
statement_by last (Statement-F.Break at) = omega arith
statement_by last (Statement-F.Return at None) = let under : weights (statement_plan last (Statement-F.Return at None)) < 20 + 0 = omega arith in under
statement_by last (Statement-F.Return at (Some value)) = let under : weights (statement_plan last (Statement-F.Return at (Some value))) < 20 + argument value = omega arith in under
statement_by last (Statement-F.Throw at value) = let under : weights (statement_plan last (Statement-F.Throw at value)) < 20 + expression value = omega arith in under
statement_by last (Statement-F.«Statement::Expression» at value) = let under : weights (statement_plan last (Statement-F.«Statement::Expression» at value)) < 20 + expression value = omega arith in under

one_lighter : (last : Bool) (x : Statement) → weights (statement_plan last (out-Statement x)) < statement x
one_lighter last x = subst (λ n. weights (statement_plan last (out-Statement x)) < n) (sym (w.statement_weighs x)) (statement_by last (out-Statement x))

-- Parts that may be missing.
otherwise_lighter : (at : ℕ) (x : Option Body) → weights (otherwise_plan at x) < 2 + body_if x
otherwise_lighter at None = omega arith
otherwise_lighter at (Some x) = omega arith

returned_lighter : (at : ℕ) (x : Option Argument) → weights (returned_plan at x) < 2 + argument_if x
returned_lighter at None = omega arith
returned_lighter at (Some x) = omega arith

initial_lighter : (of : TypeName) (x : Option Argument) → weights (initial_plan of x) < 2 + argument_if x
initial_lighter of None = omega arith
initial_lighter of (Some x) = omega arith

loop_body_lighter : (x : Option Body) → weights (loop_body_plan x) < 4 + body_if x
loop_body_lighter None = omega arith
loop_body_lighter (Some x) = omega arith

first_if_lighter : (x : Option First) → weights (first_if_plan x) < 1 + first_if x
first_if_lighter None = omega arith
first_if_lighter (Some x) = omega arith

condition_lighter : (x : Option Expr) → weights (condition_plan x) < 2 + expression_if x
condition_lighter None = omega arith
condition_lighter (Some x) = omega arith

update_if_lighter : (x : Option Expr) → weights (update_if_plan x) < 3 + expression_if x
update_if_lighter None = omega arith
update_if_lighter (Some x) = omega arith

-- Parts from one on.
total_one : {A : Type 0} (f : A → ℕ) (i : ℕ) (all : List A) (one : A) → slice_get all i ≡ Some one → total (map f (drop i all)) ≡ 2 + f one + total (map f (drop (i + 1) all))
total_one f i all one is = ap (λ t. total (map f t)) (drop_one i all one is)

length_one : {A : Type 0} (i : ℕ) (all : List A) (one : A) → slice_get all i ≡ Some one → length (drop i all) ≡ suc (length (drop (i + 1) all))
length_one i all one is = ap length (drop_one i all one is)

arguments_lighter : (all : List Argument) (i : ℕ) (found : Option Argument) → slice_get all i ≡ found → weights (arguments_plan all i found) < 1 + total (map argument (drop i all))
arguments_lighter all i None is = omega arith
arguments_lighter all i (Some one) is = omega (arith, total_one argument i all one is)

variables_lighter : (of : TypeName) (all : List Variable) (i : ℕ) (found : Option Variable) → slice_get all i ≡ found → weights (variables_plan of all i found) < 2 + total (map variable (drop i all))
variables_lighter of all i None is = omega arith
variables_lighter of all i (Some one) is = omega (arith, total_one variable i all one is)

catches_lighter : (all : List Catch) (i : ℕ) (found : Option Catch) → slice_get all i ≡ found → weights (catches_plan all i found) < 1 + total (map handler (drop i all))
catches_lighter all i None is = omega arith
catches_lighter all i (Some one) is = omega (arith, total_one handler i all one is)

parameter_weighs : (name : Spelled) (of : Option TypeName) → weight_of (parameter_item name of) ≡ 1
parameter_weighs name None = refl
parameter_weighs name (Some of) = refl

parameters_lighter : (all : List Parameter) (i : ℕ) (found : Option Parameter) → slice_get all i ≡ found → weights (parameters_plan all i found) < 1 + 2 * length (drop i all)
parameters_lighter all i None is = omega arith
parameters_lighter all i (Some one) is = omega (arith, length_one i all one is, parameter_weighs one.name one.of)

values_lighter : (all : List Expr) (i : ℕ) (found : Option Expr) → slice_get all i ≡ found → weights (values_plan all i found) < 1 + total (map expression (drop i all))
values_lighter all i None is = omega arith
values_lighter all i (Some one) is = omega (arith, total_one expression i all one is)

entries_lighter : (all : List Entry) (i : ℕ) (found : Option Entry) → slice_get all i ≡ found → weights (entries_plan all i found) < 1 + total (map entry (drop i all))
entries_lighter all i None is = omega arith
entries_lighter all i (Some one) is = omega (arith, total_one entry i all one is, entry_is one)

statements_lighter : (all : List Statement) (i : ℕ) (in_main after : Bool) (found : Option Statement) → slice_get all i ≡ found → weights (statements_plan all i in_main after found) < 1 + total (map statement (drop i all))
statements_lighter all i in_main after None is = omega arith
statements_lighter all i in_main after (Some one) is = omega (arith, total_one statement i all one is)

-- Each family of items.
expression_light : (c : Config) (x : ExpressionItem) → weights (expression_items c x) < weight_of (expression_item x)
expression_light c (e.Value x) = value_lighter x.now
expression_light c (e.Negated x minus) = negated_by minus x.now (out-Expr x.now)
expression_light c (e.Target x by) = target_by x.now by (out-Expr x.now) (w.expression_weighs x.now)
expression_light c (e.Given x) = argument_lighter x.now
expression_light c (e.Arguments all i) = arguments_lighter all.now i (slice_get all.now i) refl
expression_light c (e.Call at name all) = omega arith
expression_light c (e.Method at access name all) = omega arith
expression_light c (e.Static at access of name all) = omega arith
expression_light c (e.New at of all) = omega arith
expression_light c (e.Values all i) = values_lighter all.now i (slice_get all.now i) refl
expression_light c (e.Entries all i) = entries_lighter all.now i (slice_get all.now i) refl
expression_light c (e.List at all) = omega arith
expression_light c (e.Map at all) = omega arith
expression_light c (e.Array at of all) = omega arith
expression_light c (e.ArrayWith at of all) = omega arith

statement_light : (c : Config) (x : StatementItem) → weights (statement_items c x) < weight_of (statement_item x)
statement_light c (s.One x last) = one_lighter last x.now
statement_light c (s.Body x) = body_lighter x.now
statement_light c (s.Scoped x) = omega arith
statement_light c (s.Block x) = omega (arith, block_is x.now)
statement_light c (s.Statements all i in_main after) = statements_lighter all.now i in_main after (slice_get all.now i) refl
statement_light c (s.Otherwise at x) = otherwise_lighter at x.now
statement_light c (s.Returned at x) = returned_lighter at x.now

loop_light : (c : Config) (x : LoopItem) → weights (loop_items c x) < weight_of (loop_item x)
loop_light c (l.Looping x) = omega arith
loop_light c (l.Body x) = loop_body_lighter x.now
loop_light c (l.Block x) = omega arith
loop_light c (l.For at f d u b) = omega arith
loop_light c (l.ForParts at f d u b) = omega arith
loop_light c (l.Each at of name over body_) = omega arith
loop_light c (l.EachDef at name over body_) = omega arith
loop_light c (l.FirstIf x) = first_if_lighter x.now
loop_light c (l.First x) = first_lighter x.now
loop_light c (l.Deed x) = omega arith
loop_light c (l.Condition x) = condition_lighter x.now
loop_light c (l.UpdateIf x) = update_if_lighter x.now
loop_light c (l.Update x) = omega arith

declaration_light : (c : Config) (x : DeclarationItem) → weights (declaration_items c x) < weight_of (declaration_item x)
declaration_light c (d.Whole x) = omega (arith, declaration_is x.now)
declaration_light c (d.Variables of all i) = variables_lighter of.now all.now i (slice_get all.now i) refl
declaration_light c (d.Variable of x) = omega (arith, variable_is x.now)
declaration_light c (d.Initial of x) = initial_lighter of.now x.now

catch_light : (c : Config) (x : CatchItem) → weights (catch_items c x) < weight_of (catch_item x)
catch_light c (k.Try at all) = omega arith
catch_light c (k.All all i) = catches_lighter all.now i (slice_get all.now i) refl
catch_light c (k.One x) = omega (arith, handler_is x.now, block_is (out-Catch x.now).block)

unbuilt_light : (x : UnbuiltItem) → weights (unbuilt_items x) < weight_of (unbuilt_item x)
unbuilt_light (u.Parameters all i) = parameters_lighter all.now i (slice_get all.now i) refl
unbuilt_light (u.Inner x at) = inner_lighter at x.now

-- The same before items that are left.
weights_append : (xs ys : List Item) → weights (xs ++ ys) ≡ weights xs + weights ys
weights_append [] ys = omega arith
weights_append (x ∷ xs) ys = omega (arith, weights_append xs ys)

before : (plan js : List Item) (x : Item) → weights plan < weight_of x → weights (plan ++ js) < weights (x ∷ js)
before plan js x less = omega (arith, weights_append plan js, less)

pub expression_lighter : (c : Config) (x : ExpressionItem) (js : List Item) → weights (expression_items c x ++ js) < weights (expression_item x ∷ js)
expression_lighter c x js = before (expression_items c x) js (expression_item x) (expression_light c x)

pub statement_lighter : (c : Config) (x : StatementItem) (js : List Item) → weights (statement_items c x ++ js) < weights (statement_item x ∷ js)
statement_lighter c x js = before (statement_items c x) js (statement_item x) (statement_light c x)

pub loop_lighter : (c : Config) (x : LoopItem) (js : List Item) → weights (loop_items c x ++ js) < weights (loop_item x ∷ js)
loop_lighter c x js = before (loop_items c x) js (loop_item x) (loop_light c x)

pub declaration_lighter : (c : Config) (x : DeclarationItem) (js : List Item) → weights (declaration_items c x ++ js) < weights (declaration_item x ∷ js)
declaration_lighter c x js = before (declaration_items c x) js (declaration_item x) (declaration_light c x)

pub catch_lighter : (c : Config) (x : CatchItem) (js : List Item) → weights (catch_items c x ++ js) < weights (catch_item x ∷ js)
catch_lighter c x js = before (catch_items c x) js (catch_item x) (catch_light c x)

pub unbuilt_lighter : (x : UnbuiltItem) (js : List Item) → weights (unbuilt_items x ++ js) < weights (unbuilt_item x ∷ js)
unbuilt_lighter x js = before (unbuilt_items x) js (unbuilt_item x) (unbuilt_light x)

-- What is done leaves nothing in its place.
word_weighs : (x : WordItem) → weight_of (word_item x) ≡ 1
word_weighs (v.Called at name height) = refl
word_weighs (v.Integer at spelling) = refl
word_weighs (v.NegatedInteger minus at spelling) = refl
word_weighs (v.Text at spelling) = refl
word_weighs (v.Name at spelling) = refl
word_weighs (v.Written at spelling) = refl
word_weighs (v.TypeOf of) = refl
word_weighs (v.Asked at of) = refl
word_weighs (v.InstanceOf at of) = refl
word_weighs (v.MethodCalled at access name height) = refl
word_weighs (v.StaticCalled at access of name height) = refl
word_weighs (v.Made at of height) = refl
word_weighs (v.Read at access name) = refl
word_weighs (v.Numbered at access digits) = refl
word_weighs (v.Indexed at) = refl
word_weighs (v.ArrayMade at of height) = refl
word_weighs (v.ArrayFilled at of height) = refl
word_weighs (v.WrittenName at by name) = refl
word_weighs (v.WrittenNumber at by digits) = refl
word_weighs (v.WrittenIndex at by) = refl
word_weighs (v.Field at access of name) = refl
word_weighs (v.Begun x) = refl
word_weighs (v.Updated x) = refl

binding_weighs : (x : BindingItem) → weight_of (binding_item x) ≡ 1
binding_weighs (b.CastInitial of) = refl
binding_weighs (b.Declare name of) = refl
binding_weighs (b.Each at name of) = refl
binding_weighs (b.EachDef at name) = refl
binding_weighs (b.Named name of) = refl
binding_weighs (b.NamedDef name) = refl
binding_weighs (b.Catching of name) = refl
binding_weighs (b.Caught at of name) = refl

pub word_lighter : (x : WordItem) (js : List Item) → weights js < weights (word_item x ∷ js)
word_lighter x js = omega (arith, word_weighs x)

pub binding_lighter : (x : BindingItem) (js : List Item) → weights js < weights (binding_item x ∷ js)
binding_lighter x js = omega (arith, binding_weighs x)
