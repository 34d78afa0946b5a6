-- What is put in the place of each item comes to what the item comes to, and so does what is done.
use Rattle.std.proofs.Common.{◌≡◌, ℕ, ◌+◌, Bool, List, ◌∷◌, ◌++◌, slice_get, Option, Some, None, Result, Ok, Err, refl, sym, ap, subst}
use Rattle.pl_types.specs.declared.refusal.Fail.{Fail}
use Rattle.pl_types.specs.declared.refusal.Fail.TheVariants.{Refused, NoMemory}
use Rattle.pl_types.specs.declared.ty.Ty.TheVariants as ty
use Rattle.pl_tree.specs.declared.tree.Argument.{Argument}
use Rattle.pl_tree.specs.declared.tree.Catch.{Catch}
use Rattle.pl_tree.specs.declared.tree.Entry.{Entry}
use Rattle.pl_tree.specs.declared.tree.Expr.{Expr}
use Rattle.pl_tree.specs.declared.tree.Parameter.{Parameter}
use Rattle.pl_tree.specs.declared.tree.Statement.{Statement}
use Rattle.pl_tree.specs.declared.tree.TypeName.{TypeName}
use Rattle.pl_tree.specs.declared.tree.Variable.{Variable}
use Rattle.allowlist.specs.Allow.{AllowList}
use Rattle.typing_rules.specs.declared.header.Header.{Header}
use Rattle.typing_rules.specs.Doing.{Answer, and_then}
use Rattle.typing_rules.specs.Outcomes.{Out, KeepsIn}
use Rattle.typing_rules.specs.Rules.Types.{type_of}
use Rattle.typing_rules.specs.State.{declared}
use Rattle.typing_actions.specs.declared.config.Config.{Config}
use Rattle.typing_worklist.specs.declared.item.Act.{Act}
use Rattle.typing_worklist.specs.declared.item.StatementAct.{StatementAct}
use Rattle.typing_worklist.specs.declared.item.BindingItem.{BindingItem}
use Rattle.typing_worklist.specs.declared.item.BindingItem.TheVariants as b
use Rattle.typing_worklist.specs.declared.item.CatchItem.{CatchItem}
use Rattle.typing_worklist.specs.declared.item.CatchItem.TheVariants as k
use Rattle.typing_worklist.specs.declared.item.DeclarationItem.{DeclarationItem}
use Rattle.typing_worklist.specs.declared.item.DeclarationItem.TheVariants as d
use Rattle.typing_worklist.specs.declared.item.ExpressionItem.{ExpressionItem}
use Rattle.typing_worklist.specs.declared.item.ExpressionItem.TheVariants as e
use Rattle.typing_worklist.specs.declared.item.LoopItem.{LoopItem}
use Rattle.typing_worklist.specs.declared.item.LoopItem.TheVariants as l
use Rattle.typing_worklist.specs.declared.item.StatementItem.{StatementItem}
use Rattle.typing_worklist.specs.declared.item.StatementItem.TheVariants as s
use Rattle.typing_worklist.specs.declared.item.UnbuiltItem.{UnbuiltItem}
use Rattle.typing_worklist.specs.declared.item.UnbuiltItem.TheVariants as u
use Rattle.typing_worklist.specs.declared.item.WordItem.{WordItem}
use Rattle.typing_worklist.specs.declared.item.WordItem.TheVariants as w
use Rattle.typing_worklist.specs.Going.{Goes}
use Rattle.typing_worklist.specs.Item as j
use Rattle.typing_worklist.specs.Item.{Item}
use Rattle.typing_worklist.specs.Items.{expression_item, word_item, binding_item, statement_item, loop_item, declaration_item, catch_item, unbuilt_item}
use Rattle.typing_worklist.specs.Machine.{run, does, does_statement, does_word, does_binding}
use Rattle.typing_worklist.specs.Plans.{arguments_plan, variables_plan, catches_plan, parameters_plan, values_plan, entries_plan, statements_plan, expression_items, statement_items, loop_items, declaration_items, catch_items, unbuilt_items}
use Rattle.typing_worklist.proofs.Behind.{behind, behind_two}
use Rattle.typing_worklist.proofs.Goings as goings
use Rattle.typing_worklist.proofs.PartPlans as parts
use Rattle.typing_worklist.proofs.StatementPlans as statements
use Rattle.typing_worklist.proofs.ValuePlans as values

-- what an act keeps goes on
keeps_goes : {U : Type 0} (o : Out Config) (k : Config → Answer) (r : Result U Fail) (new : Config) → KeepsIn o r new → Goes (and_then o k) r (k new)
keeps_goes o k (Ok u) new is = ap (λ (p : Out Config). and_then p k) is
keeps_goes o k (Err (Refused r)) new is = ap (λ (p : Out Config). and_then p k) is
keeps_goes o k (Err NoMemory) new is = tt

module _ (allow : AllowList) (hs : List Header) (js : List Item) (c : Config) where
  arguments_from : (all : List Argument) (i : ℕ) (found : Option Argument) → slice_get all i ≡ found → run allow hs (j.Arguments all i ∷ js) c ≡ run allow hs (arguments_plan all i found ++ js) c
  arguments_from all i None is = goings.arguments_end allow hs js c all i is
  arguments_from all i (Some one) is = goings.arguments_go allow hs js c all i one is

  variables_from : (of : TypeName) (all : List Variable) (i : ℕ) (found : Option Variable) → slice_get all i ≡ found → run allow hs (j.Variables of all i ∷ js) c ≡ run allow hs (variables_plan of all i found ++ js) c
  variables_from of all i None is = goings.variables_end allow hs js c of all i is
  variables_from of all i (Some one) is = goings.variables_go allow hs js c of all i one is

  catches_from : (all : List Catch) (i : ℕ) (found : Option Catch) → slice_get all i ≡ found → run allow hs (j.Catches all i ∷ js) c ≡ run allow hs (catches_plan all i found ++ js) c
  catches_from all i None is = goings.catches_end allow hs js c all i is
  catches_from all i (Some one) is = goings.catches_go allow hs js c all i one is

  parameters_from : (all : List Parameter) (i : ℕ) (found : Option Parameter) → slice_get all i ≡ found → run allow hs (j.Parameters all i ∷ js) c ≡ run allow hs (parameters_plan all i found ++ js) c
  parameters_from all i None is = goings.parameters_end allow hs js c all i is
  parameters_from all i (Some one) is = goings.parameters_go allow hs js c all i one is

  values_from : (all : List Expr) (i : ℕ) (found : Option Expr) → slice_get all i ≡ found → run allow hs (j.Values all i ∷ js) c ≡ run allow hs (values_plan all i found ++ js) c
  values_from all i None is = goings.values_end allow hs js c all i is
  values_from all i (Some one) is = goings.values_go allow hs js c all i one is

  entries_from : (all : List Entry) (i : ℕ) (found : Option Entry) → slice_get all i ≡ found → run allow hs (j.Entries all i ∷ js) c ≡ run allow hs (entries_plan all i found ++ js) c
  entries_from all i None is = goings.entries_end allow hs js c all i is
  entries_from all i (Some one) is = goings.entries_go allow hs js c all i one is

  statements_from : (all : List Statement) (i : ℕ) (in_main after : Bool) (found : Option Statement) → slice_get all i ≡ found → run allow hs (j.Statements all i in_main after ∷ js) c ≡ run allow hs (statements_plan all i in_main after found ++ js) c
  statements_from all i in_main after None is = goings.statements_end allow hs js c all i in_main after is
  statements_from all i in_main after (Some one) is = goings.statements_go allow hs js c all i in_main after one is

  pub expression_planned : (x : ExpressionItem) → run allow hs (expression_item x ∷ js) c ≡ run allow hs (expression_items c x ++ js) c
  expression_planned (e.Value x) = values.value_planned allow hs js c x.now
  expression_planned (e.Negated x minus) = values.negated_planned allow hs js c minus x.now
  expression_planned (e.Target x by) = values.target_planned allow hs js c x.now by
  expression_planned (e.Given x) = parts.argument_planned allow hs js c x.now
  expression_planned (e.Arguments all i) = arguments_from all.now i (slice_get all.now i) refl
  expression_planned (e.Call at name all) = goings.call_goes allow hs js c at name.now all.now
  expression_planned (e.Method at access name all) = goings.method_goes allow hs js c at access name.now all.now
  expression_planned (e.Static at access of name all) = goings.static_goes allow hs js c at access of.now name.now all.now
  expression_planned (e.New at of all) = goings.new_goes allow hs js c at of.now all.now
  expression_planned (e.Values all i) = values_from all.now i (slice_get all.now i) refl
  expression_planned (e.Entries all i) = entries_from all.now i (slice_get all.now i) refl
  expression_planned (e.List at all) = goings.list_goes allow hs js c at all.now
  expression_planned (e.Map at all) = goings.map_goes allow hs js c at all.now
  expression_planned (e.Array at of all) = goings.array_goes allow hs js c at of.now all.now
  expression_planned (e.ArrayWith at of all) = goings.array_with_goes allow hs js c at of.now all.now

  pub statement_planned : (x : StatementItem) → run allow hs (statement_item x ∷ js) c ≡ run allow hs (statement_items c x ++ js) c
  statement_planned (s.One x last) = statements.statement_planned allow hs js c last x.now
  statement_planned (s.Body x) = parts.body_planned allow hs js c x.now
  statement_planned (s.Scoped x) = goings.scoped_goes allow hs js c x.now
  statement_planned (s.Block x) = goings.block_goes allow hs js c x.now
  statement_planned (s.Statements all i in_main after) = statements_from all.now i in_main after (slice_get all.now i) refl
  statement_planned (s.Otherwise at x) = parts.otherwise_planned allow hs js c at x.now
  statement_planned (s.Returned at x) = parts.returned_planned allow hs js c at x.now

  pub loop_part_planned : (x : LoopItem) → run allow hs (loop_item x ∷ js) c ≡ run allow hs (loop_items c x ++ js) c
  loop_part_planned (l.Looping x) = goings.looping_goes allow hs js c x.now
  loop_part_planned (l.Body x) = parts.loop_body_planned allow hs js c x.now
  loop_part_planned (l.Block x) = goings.loop_block_goes allow hs js c x.now
  loop_part_planned (l.For at first condition update body) = goings.for_goes allow hs js c at first.now condition.now update.now body.now
  loop_part_planned (l.ForParts at first condition update body) = parts.for_planned allow hs js c at first.now condition.now update.now body.now
  loop_part_planned (l.Each at of name over body) = goings.for_each_goes allow hs js c at of.now name.now over.now body.now
  loop_part_planned (l.EachDef at name over body) = goings.for_in_goes allow hs js c at name.now over.now body.now
  loop_part_planned (l.FirstIf x) = parts.first_if_planned allow hs js c x.now
  loop_part_planned (l.First x) = parts.first_planned allow hs js c x.now
  loop_part_planned (l.Deed x) = goings.deed_goes allow hs js c x.now
  loop_part_planned (l.Condition x) = parts.condition_planned allow hs js c x.now
  loop_part_planned (l.UpdateIf x) = parts.update_if_planned allow hs js c x.now
  loop_part_planned (l.Update x) = goings.update_goes allow hs js c x.now

  pub declaration_planned : (x : DeclarationItem) → run allow hs (declaration_item x ∷ js) c ≡ run allow hs (declaration_items c x ++ js) c
  declaration_planned (d.Whole x) = goings.declaration_goes allow hs js c x.now
  declaration_planned (d.Variables of all i) = variables_from of.now all.now i (slice_get all.now i) refl
  declaration_planned (d.Variable of x) = goings.variable_goes allow hs js c of.now x.now
  declaration_planned (d.Initial of x) = parts.initial_planned allow hs js c of.now x.now

  pub catch_planned : (x : CatchItem) → run allow hs (catch_item x ∷ js) c ≡ run allow hs (catch_items c x ++ js) c
  catch_planned (k.Try at all) = goings.try_goes allow hs js c at all.now
  catch_planned (k.All all i) = catches_from all.now i (slice_get all.now i) refl
  catch_planned (k.One x) = goings.catch_goes allow hs js c x.now

  pub unbuilt_planned : (x : UnbuiltItem) → run allow hs (unbuilt_item x ∷ js) c ≡ run allow hs (unbuilt_items x ++ js) c
  unbuilt_planned (u.Parameters all i) = parameters_from all.now i (slice_get all.now i) refl
  unbuilt_planned (u.Inner x at) = parts.inner_planned allow hs js c at x.now

  word_by : (x : WordItem) → run allow hs (word_item x ∷ js) c ≡ and_then (does_word allow hs x c) (run allow hs js)
  unfolding run
  word_by (w.Called at name height) = refl
  word_by (w.Integer at spelling) = refl
  word_by (w.NegatedInteger minus at spelling) = refl
  word_by (w.Text at spelling) = refl
  word_by (w.Name at spelling) = refl
  word_by (w.Written at spelling) = refl
  word_by (w.TypeOf of) = behind (type_of of.now) (λ t. c) (run allow hs js)
  word_by (w.Asked at of) = refl
  word_by (w.InstanceOf at of) = refl
  word_by (w.MethodCalled at access name height) = refl
  word_by (w.StaticCalled at access of name height) = refl
  word_by (w.Made at of height) = refl
  word_by (w.Read at access name) = refl
  word_by (w.Numbered at access digits) = refl
  word_by (w.Indexed at) = refl
  word_by (w.ArrayMade at of height) = refl
  word_by (w.ArrayFilled at of height) = refl
  word_by (w.WrittenName at by name) = refl
  word_by (w.WrittenNumber at by digits) = refl
  word_by (w.WrittenIndex at by) = refl
  word_by (w.Field at access of name) = refl
  word_by (w.Begun x) = refl
  word_by (w.Updated x) = refl

  binding_by : (x : BindingItem) → run allow hs (binding_item x ∷ js) c ≡ and_then (does_binding x c) (run allow hs js)
  unfolding run
  binding_by (b.CastInitial of) = refl
  binding_by (b.Declare name of) = refl
  binding_by (b.Each at name of) = refl
  binding_by (b.EachDef at name) = refl
  binding_by (b.Named name of) = behind_two (type_of of.now) (λ t. declared name.now.at name.now.spelling t c.state) (λ s. record c { state = s }) (run allow hs js)
  binding_by (b.NamedDef name) = behind (declared name.now.at name.now.spelling ty.Def c.state) (λ s. record c { state = s }) (run allow hs js)
  binding_by (b.Catching of name) = refl
  binding_by (b.Caught at of name) = refl

  pub word_goes : {U : Type 0} (x : WordItem) (r : Result U Fail) (new : Config) → KeepsIn (does_word allow hs x c) r new → Goes (run allow hs (word_item x ∷ js) c) r (run allow hs js new)
  word_goes x r new is = subst (λ (o : Answer). Goes o r (run allow hs js new)) (sym (word_by x)) (keeps_goes (does_word allow hs x c) (run allow hs js) r new is)

  pub binding_goes : {U : Type 0} (x : BindingItem) (r : Result U Fail) (new : Config) → KeepsIn (does_binding x c) r new → Goes (run allow hs (binding_item x ∷ js) c) r (run allow hs js new)
  binding_goes x r new is = subst (λ (o : Answer). Goes o r (run allow hs js new)) (sym (binding_by x)) (keeps_goes (does_binding x c) (run allow hs js) r new is)

  pub act_goes : {U : Type 0} (x : Act) (r : Result U Fail) (new : Config) → KeepsIn (does x c) r new → Goes (run allow hs (j.Do x ∷ js) c) r (run allow hs js new)
  unfolding run
  act_goes x r new is = keeps_goes (does x c) (run allow hs js) r new is

  pub statement_act_goes : {U : Type 0} (x : StatementAct) (r : Result U Fail) (new : Config) → KeepsIn (does_statement x c) r new → Goes (run allow hs (j.DoStatement x ∷ js) c) r (run allow hs js new)
  unfolding run
  statement_act_goes x r new is = keeps_goes (does_statement x c) (run allow hs js) r new is
