-- What goes on by what is known comes to the same.
use Rattle.std.proofs.Common.{◌≡◌, ℕ, zero, suc, ◌+◌, ◌&&◌, add-one, Bool, true, false, List, [], ◌∷◌, ◌++◌, length, drop, map, slice_get, Option, Some, None, Ok, refl, sym, ap, ◌∙◌}
use Rattle.pl_types.specs.declared.ty.Ty.{Ty}
use Rattle.pl_types.specs.declared.ty.Ty.TheVariants as ty
use Rattle.pl_tree.specs.declared.operator.Access.{Access}
use Rattle.pl_tree.specs.declared.tree.Argument.{Argument}
use Rattle.pl_tree.specs.declared.tree.Block.{Block, out-Block}
use Rattle.pl_tree.specs.declared.tree.Body.{Body}
use Rattle.pl_tree.specs.declared.tree.Catch.{Catch, out-Catch}
use Rattle.pl_tree.specs.declared.tree.Declaration.{Declaration, out-Declaration}
use Rattle.pl_tree.specs.declared.tree.Entry.{Entry, out-Entry}
use Rattle.pl_tree.specs.declared.tree.Expr.{Expr}
use Rattle.pl_tree.specs.declared.tree.First.{First}
use Rattle.pl_tree.specs.declared.tree.Parameter.{Parameter}
use Rattle.pl_tree.specs.declared.tree.Statement.{Statement}
use Rattle.pl_tree.specs.declared.tree.TypeName.{TypeName}
use Rattle.pl_tree.specs.declared.tree.Spelled.{Spelled}
use Rattle.pl_tree.specs.declared.tree.Variable.{Variable, out-Variable}
use Rattle.typed_tree.specs.declared.statement.TypedVariable.{TypedVariable}
use Rattle.allowlist.specs.Allow.{AllowList}
use Rattle.typing_rules.specs.declared.header.Header.{Header}
use Rattle.typing_rules.specs.declared.part.Caught.{Caught}
use Rattle.typing_rules.specs.declared.part.Part.{Part}
use Rattle.typing_rules.specs.declared.state.State.{State}
use Rattle.typing_rules.specs.Doing.{Answer, Doing, and_then}
use Rattle.typing_rules.specs.Outcomes.{bind}
use Rattle.typing_rules.specs.State.{closed, declared}
use Rattle.typing_rules.specs.Rules.Types.{type_of, caught_class}
use Rattle.typing_rules.specs.Rules.Calls as calls
use Rattle.typing_rules.specs.Rules.Casts as casts
use Rattle.typing_rules.specs.Rules.Loops as loops
use Rattle.typing_rules.specs.Rules.Statements as rules
use Rattle.typing_rules.specs.Typing as typing
use Rattle.typing_rules.specs.Typing.{Doer, Braces, value_of, reading, argument, body, doer, braces, parts, handlers, statements, looping, lambda_parameters, parameter_type, is_empty, variable_step}
use Rattle.typing_actions.specs.declared.config.Config.{Config}
use Rattle.typing_actions.specs.Stacks.{one, above}
use Rattle.typing_actions.specs.Statements as deeds
use Rattle.typing_worklist.specs.declared.item.Act.TheVariants as a
use Rattle.typing_worklist.specs.declared.item.StatementAct.TheVariants as sa
use Rattle.typing_worklist.specs.Folds.{handler, entry, variable}
use Rattle.typing_worklist.specs.Going.{none_left}
use Rattle.typing_worklist.specs.Item as j
use Rattle.typing_worklist.specs.Item.{Item}
use Rattle.typing_worklist.specs.Machine.{run, stacked, parts_to, step_to, steps_to, variable_to, variables_to, catch_to, catches_to, nothing_to}
use Rattle.typing_worklist.specs.Plans.{parameter_item, variable_plan, statements_plan, catch_plan, each_plan, each_def_plan}
use Rattle.typing_worklist.proofs.Above.{above_stacked}
use Rattle.typing_worklist.proofs.Behind.{behind, behind_two, behind_both, behind_with, again, again_with}
use Rattle.typing_worklist.proofs.Opened.{block_is, catch_is, declaration_is, entry_is, variable_over, variable_is}
use Rattle.typing_worklist.proofs.StatementPlans.{place_is}

drop_at : {A : Type 0} (i : ℕ) (all : List A) (one : A) → slice_get all i ≡ Some one → drop i all ≡ one ∷ drop (suc i) all
drop_at zero [] one is = absurd cc
drop_at zero (x ∷ all) one is = ap (λ t. t ∷ all) cc
drop_at (suc i) [] one is = absurd cc
drop_at (suc i) (x ∷ all) one is = drop_at i all one is

drop_end : {A : Type 0} (i : ℕ) (all : List A) → slice_get all i ≡ None → drop i all ≡ []
drop_end zero [] is = refl
drop_end zero (x ∷ all) is = absurd cc
drop_end (suc i) [] is = refl
drop_end (suc i) (x ∷ all) is = drop_end i all is

pub drop_one : {A : Type 0} (i : ℕ) (all : List A) (one : A) → slice_get all i ≡ Some one → drop i all ≡ one ∷ drop (i + 1) all
drop_one i all one is = drop_at i all one is ∙ ap (λ n. one ∷ drop n all) (sym (add-one i))

module _ (allow : AllowList) (hs : List Header) where
  behind_none : (n : ℕ) (all : List Statement) → is_empty (map (doer allow hs) (drop n all)) ≡ none_left (slice_get all n)
  behind_none zero [] = refl
  behind_none zero (x ∷ all) = refl
  behind_none (suc n) [] = refl
  behind_none (suc n) (x ∷ all) = behind_none n all

module _ (allow : AllowList) (hs : List Header) (js : List Item) (c : Config) where
  pub arguments_go : (all : List Argument) (i : ℕ) (one : Argument) → slice_get all i ≡ Some one → run allow hs (j.Arguments all i ∷ js) c ≡ run allow hs (j.Given one ∷ j.Arguments all (i + 1) ∷ js) c
  unfolding run
  arguments_go all i one is = ap (λ (t : List Argument). parts (map (argument allow hs) t) c.state (parts_to c (run allow hs js))) (drop_one i all one is)

  pub arguments_end : (all : List Argument) (i : ℕ) → slice_get all i ≡ None → run allow hs (j.Arguments all i ∷ js) c ≡ run allow hs (js) c
  unfolding run
  arguments_end all i is = ap (λ (t : List Argument). parts (map (argument allow hs) t) c.state (parts_to c (run allow hs js))) (drop_end i all is)

  pub call_goes : (at : ℕ) (name : List ℕ) (all : List Argument) → run allow hs (j.Call at name all ∷ js) c ≡ run allow hs (j.Arguments all 0 ∷ j.Called at name (length c.parts) ∷ js) c
  unfolding run
  call_goes at name all =
      (λ i. parts (map (argument allow hs) all) c.state (λ xs s. behind (calls.call_of hs at name xs) (λ z. record c { parts = z ∷ c.parts; state = s }) (run allow hs js) i))
      ∙ sym (λ i. parts (map (argument allow hs) all) c.state (λ xs s. and_then (above_stacked xs c.parts (λ ys rest. bind (calls.call_of hs at name ys) (λ z. Ok (record c { parts = z ∷ rest; state = s }))) i) (run allow hs js)))

  pub method_goes : (at : ℕ) (access : Access) (name : List ℕ) (all : List Argument) → run allow hs (j.Method at access name all ∷ js) c ≡ run allow hs (j.Arguments all 0 ∷ j.MethodCalled at access name (length c.parts) ∷ js) c
  unfolding run
  method_goes at access name all = refl

  pub static_goes : (at : ℕ) (access : Access) (of : TypeName) (name : List ℕ) (all : List Argument) → run allow hs (j.Static at access of name all ∷ js) c ≡ run allow hs (j.Arguments all 0 ∷ j.StaticCalled at access of name (length c.parts) ∷ js) c
  unfolding run
  static_goes at access of name all = refl

  pub new_goes : (at : ℕ) (of : TypeName) (all : List Argument) → run allow hs (j.New at of all ∷ js) c ≡ run allow hs (j.Arguments all 0 ∷ j.Made at of (length c.parts) ∷ js) c
  unfolding run
  new_goes at of all = refl

  pub scoped_goes : (e : Statement) → run allow hs (j.Scoped e ∷ js) c ≡ run allow hs (j.Statement_ e false ∷ j.DoStatement (sa.Close (length c.state.scopes)) ∷ js) c
  unfolding run
  scoped_goes e = refl

  pub for_goes : (at : ℕ) (f : Option First) (d u : Option Expr) (b : Option Body) → run allow hs (j.For at f d u b ∷ js) c ≡ run allow hs (j.ForParts at f d u b ∷ j.DoStatement (sa.Close (length c.state.scopes)) ∷ js) c
  unfolding run
  for_goes at f d u b = refl

  pub looping_goes : (e : Body) → run allow hs (j.Looping e ∷ js) c ≡ run allow hs (j.DoStatement (sa.Looped true) ∷ j.Body_ e ∷ j.DoStatement (sa.Looped c.state.looped) ∷ js) c
  unfolding run
  looping_goes e = refl

  pub loop_block_goes : (e : Block) → run allow hs (j.LoopBlock e ∷ js) c ≡ run allow hs (j.DoStatement (sa.Looped true) ∷ j.Block_ e ∷ j.DoStatement (sa.Looped c.state.looped) ∷ js) c
  unfolding run
  loop_block_goes e = refl

  pub statements_go : (all : List Statement) (i : ℕ) (in_main after : Bool) (one : Statement) → slice_get all i ≡ Some one → run allow hs (j.Statements all i in_main after ∷ js) c ≡ run allow hs (statements_plan all i in_main after (Some one) ++ js) c
  unfolding run
  statements_go all i in_main after one is =
      ap (λ (t : List Statement). statements in_main after (map (doer allow hs) t) c.state (steps_to c (run allow hs js))) (drop_one i all one is)
      ∙ ap (λ (b : Bool). run allow hs (j.Statement_ one (in_main && b) ∷ j.Reached all (i + 1) (doer allow hs one).at in_main after ∷ js) c) (behind_none allow hs (i + 1) all)
      ∙ ap (λ (at : ℕ). run allow hs (j.Statement_ one (in_main && none_left (slice_get all (i + 1))) ∷ j.Reached all (i + 1) at in_main after ∷ js) c) (place_is allow hs one)

  pub statements_end : (all : List Statement) (i : ℕ) (in_main after : Bool) → slice_get all i ≡ None → run allow hs (j.Statements all i in_main after ∷ js) c ≡ run allow hs (js) c
  unfolding run
  statements_end all i in_main after is = ap (λ (t : List Statement). statements in_main after (map (doer allow hs) t) c.state (steps_to c (run allow hs js))) (drop_end i all is)

  pub block_goes : (e : Block) → run allow hs (j.Block_ e ∷ js) c ≡ run allow hs (j.Statements (out-Block e).statements 0 false false ∷ j.DoStatement (sa.Close (length c.state.scopes)) ∷ j.DoStatement (sa.Block (out-Block e).at (length c.steps)) ∷ js) c
  unfolding run
  block_goes e =
      ap (λ (x : Braces). x.steps c.state (λ ys s. (run allow hs js) (record c { steps = rules.block_of x.at ys ∷ c.steps; state = closed (length c.state.scopes) s }))) (block_is allow hs e)
      ∙ sym (λ i. statements false false (map (doer allow hs) (out-Block e).statements) c.state (λ ys s. and_then (above_stacked ys c.steps (λ zs rest. Ok (record c { steps = rules.block_of (out-Block e).at zs ∷ rest; state = closed (length c.state.scopes) s })) i) (run allow hs js)))

  pub deed_goes : (e : Expr) → run allow hs (j.Deed e ∷ js) c ≡ run allow hs (j.Value e ∷ j.Begun e ∷ js) c
  unfolding run
  deed_goes e = λ i. (reading allow hs e).value c.state (λ x s. behind (rules.deed (reading allow hs e).first x) (λ y. record c { steps = y ∷ c.steps; state = s }) (run allow hs js) i)

  pub update_goes : (e : Expr) → run allow hs (j.Update e ∷ js) c ≡ run allow hs (j.Value e ∷ j.Updated e ∷ js) c
  unfolding run
  update_goes e = λ i. (reading allow hs e).value c.state (λ x s. behind_with (rules.deed (reading allow hs e).first x) (λ y. Some x.typed) (λ t. record c { tests = t ∷ c.tests; state = s }) (run allow hs js) i)

  pub declaration_goes : (e : Declaration) → run allow hs (j.Declaration_ e ∷ js) c ≡ run allow hs (j.Variables (out-Declaration e).of (out-Declaration e).variables 0 ∷ j.DoStatement (sa.Declaration (out-Declaration e).of.at (length c.variables)) ∷ js) c
  unfolding run
  declaration_goes e =
      ap (λ (x : Doer). x.typed false c.state (step_to c (run allow hs js))) (declaration_is allow hs e)
      ∙ sym (λ i. and_then (type_of (out-Declaration e).of) (λ t. typing.variables t (map (variable allow hs) (out-Declaration e).variables) c.state (λ xs s. and_then (above_stacked xs c.variables (λ vs rest. Ok (record c { variables = rest; steps = rules.declaration_of (out-Declaration e).of.at vs ∷ c.steps; state = s })) i) (run allow hs js))))

  pub variables_go : (of : TypeName) (all : List Variable) (i : ℕ) (one : Variable) → slice_get all i ≡ Some one → run allow hs (j.Variables of all i ∷ js) c ≡ run allow hs (j.Variable_ of one ∷ j.Variables of all (i + 1) ∷ js) c
  unfolding run
  variables_go of all i one is =
      ap (λ (t : List Variable). and_then (type_of of) (λ d. typing.variables d (map (variable allow hs) t) c.state (variables_to c (run allow hs js)))) (drop_one i all one is)
      ∙ again_with (type_of of) (λ d p. variable allow hs one d c.state (λ x s. and_then p (λ e. typing.variables e (map (variable allow hs) (drop (i + 1) all)) s (λ xs t. (run allow hs js) (record c { variables = stacked xs (x ∷ c.variables); state = t })))))

  pub variables_end : (of : TypeName) (all : List Variable) (i : ℕ) → slice_get all i ≡ None → run allow hs (j.Variables of all i ∷ js) c ≡ run allow hs (j.TypeOf of ∷ js) c
  unfolding run
  variables_end of all i is = ap (λ (t : List Variable). and_then (type_of of) (λ d. typing.variables d (map (variable allow hs) t) c.state (variables_to c (run allow hs js)))) (drop_end i all is)

  variable_by : (of : TypeName) (name : Spelled) (v : Option Argument)
      → and_then (type_of of) (λ t. variable_step allow hs (variable_over allow hs (record { name = name; value = v })) t c.state (variable_to c (run allow hs js))) ≡ run allow hs (j.TypeOf of ∷ j.Initial of v ∷ j.Declare name of ∷ js) c
  unfolding run
  variable_by of name None =
      (λ i. and_then (type_of of) (λ t. behind (rules.variable_of name t None c.state) (λ p. record c { variables = p.0 ∷ c.variables; state = p.1 }) (run allow hs js) i))
      ∙ again (type_of of) (λ q. and_then (bind q (λ to. bind (rules.variable_of name to None c.state) (λ p. Ok (record c { variables = p.0 ∷ c.variables; state = p.1 })))) (run allow hs js))
  variable_by of name (Some e) =
      (λ i. and_then (type_of of) (λ t. argument allow hs e c.state (λ x s. and_then (casts.cast_to t x) (λ y. behind (rules.variable_of name t (Some y) s) (λ p. record c { variables = p.0 ∷ c.variables; state = p.1 }) (run allow hs js) i))))
      ∙ (λ i. and_then (type_of of) (λ t. argument allow hs e c.state (λ x s. behind_with (casts.cast_to t x) (λ y. Some y) (λ z. record c { tests = z ∷ c.tests; state = s }) (λ d. and_then (one d.tests (λ value rest. bind (Ok t) (λ to. bind (rules.variable_of name to value d.state) (λ p. Ok (record d { tests = rest; variables = p.0 ∷ d.variables; state = p.1 }))))) (run allow hs js)) i)))
      ∙ again (type_of of) (λ q. argument allow hs e c.state (λ x s. and_then (bind (bind q (λ to. bind (casts.cast_to to x) (λ y. Ok (Some y)))) (λ z. Ok (record c { tests = z ∷ c.tests; state = s }))) (λ d. and_then (one d.tests (λ value rest. bind q (λ to. bind (rules.variable_of name to value d.state) (λ p. Ok (record d { tests = rest; variables = p.0 ∷ d.variables; state = p.1 }))))) (run allow hs js))))

  pub variable_goes : (of : TypeName) (e : Variable) → run allow hs (j.Variable_ of e ∷ js) c ≡ run allow hs (variable_plan of e ++ js) c
  unfolding run
  variable_goes of e = ap (λ (x : Ty → Doing TypedVariable). and_then (type_of of) (λ t. x t c.state (variable_to c (run allow hs js)))) (variable_is allow hs e) ∙ variable_by of (out-Variable e).name (out-Variable e).value

  parameter_by : (name : Spelled) (v : Option TypeName) (all : List Parameter) (i : ℕ)
      → and_then (parameter_type v) (λ of. and_then (declared name.at name.spelling of c.state) (λ t. lambda_parameters (drop i all) t (nothing_to c (run allow hs js)))) ≡ run allow hs (parameter_item name v ∷ j.Parameters all i ∷ js) c
  unfolding run
  parameter_by name None all i = refl
  parameter_by name (Some of) all i = refl

  pub parameters_go : (all : List Parameter) (i : ℕ) (one : Parameter) → slice_get all i ≡ Some one → run allow hs (j.Parameters all i ∷ js) c ≡ run allow hs (parameter_item one.name one.of ∷ j.Parameters all (i + 1) ∷ js) c
  unfolding run
  parameters_go all i one is = ap (λ (t : List Parameter). lambda_parameters t c.state (nothing_to c (run allow hs js))) (drop_one i all one is) ∙ parameter_by one.name one.of all (i + 1)

  pub parameters_end : (all : List Parameter) (i : ℕ) → slice_get all i ≡ None → run allow hs (j.Parameters all i ∷ js) c ≡ run allow hs js c
  unfolding run
  parameters_end all i is = ap (λ (t : List Parameter). lambda_parameters t c.state (nothing_to c (run allow hs js))) (drop_end i all is)

  pub values_go : (all : List Expr) (i : ℕ) (one : Expr) → slice_get all i ≡ Some one → run allow hs (j.Values all i ∷ js) c ≡ run allow hs (j.Value one ∷ j.Values all (i + 1) ∷ js) c
  unfolding run
  values_go all i one is = ap (λ (t : List Expr). parts (map value_of (map (reading allow hs) t)) c.state (parts_to c (run allow hs js))) (drop_one i all one is)

  pub values_end : (all : List Expr) (i : ℕ) → slice_get all i ≡ None → run allow hs (j.Values all i ∷ js) c ≡ run allow hs js c
  unfolding run
  values_end all i is = ap (λ (t : List Expr). parts (map value_of (map (reading allow hs) t)) c.state (parts_to c (run allow hs js))) (drop_end i all is)

  pub entries_go : (all : List Entry) (i : ℕ) (one : Entry) → slice_get all i ≡ Some one → run allow hs (j.Entries all i ∷ js) c ≡ run allow hs (j.Value (out-Entry one).key ∷ j.Value (out-Entry one).value ∷ j.Entries all (i + 1) ∷ js) c
  unfolding run
  entries_go all i one is = ap (λ (t : List Entry). typing.entries (map (entry allow hs) t) c.state (parts_to c (run allow hs js))) (drop_one i all one is)
      ∙ ap (λ (x : Doing (Part × Part)). x c.state (λ p s. typing.entries (map (entry allow hs) (drop (i + 1) all)) s (λ xs t. run allow hs js (record c { parts = stacked xs (p.1 ∷ p.0 ∷ c.parts); state = t })))) (entry_is allow hs one)

  pub entries_end : (all : List Entry) (i : ℕ) → slice_get all i ≡ None → run allow hs (j.Entries all i ∷ js) c ≡ run allow hs js c
  unfolding run
  entries_end all i is = ap (λ (t : List Entry). typing.entries (map (entry allow hs) t) c.state (parts_to c (run allow hs js))) (drop_end i all is)

  pub list_goes : (at : ℕ) (all : List Expr) → run allow hs (j.ListOf at all ∷ js) c ≡ run allow hs (j.Values all 0 ∷ j.Do (a.List at (length c.parts)) ∷ js) c
  unfolding run
  list_goes at all = refl

  pub map_goes : (at : ℕ) (all : List Entry) → run allow hs (j.MapOf at all ∷ js) c ≡ run allow hs (j.Entries all 0 ∷ j.Do (a.Map at (length c.parts)) ∷ js) c
  unfolding run
  map_goes at all = refl

  pub array_goes : (at : ℕ) (of : TypeName) (all : List Expr) → run allow hs (j.ArrayOf at of all ∷ js) c ≡ run allow hs (j.Values all 0 ∷ j.ArrayMade at of (length c.parts) ∷ js) c
  unfolding run
  array_goes at of all = refl

  pub array_with_goes : (at : ℕ) (of : TypeName) (all : List Expr) → run allow hs (j.ArrayWith at of all ∷ js) c ≡ run allow hs (j.Values all 0 ∷ j.ArrayFilled at of (length c.parts) ∷ js) c
  unfolding run
  array_with_goes at of all = refl

  -- a loop over elements behind what it goes over, whose variable is of a type
  abbrev each_rest : ℕ → Spelled → Body → Ty → Part → State → Answer
  each_rest at name b to x s = and_then (loops.each_of at name.spelling to x s) (λ e. and_then (declared name.at name.spelling to s) (λ t.
      looping (body allow hs b) t (λ y u. run allow hs js (record c { steps = loops.each_loop at e.first e.element y ∷ c.steps; state = closed (length c.state.scopes) u }))))

  each_by : (at : ℕ) (name : Spelled) (b : Body) (to : Ty) (x : Part) (s : State) → each_rest at name b to x s
      ≡ and_then (deeds.each_begun at name to x (record c { state = s })) (run allow hs (j.Looping b ∷ j.DoStatement (sa.EachLoop at) ∷ j.DoStatement (sa.Close (length c.state.scopes)) ∷ js))
  unfolding run
  each_by at name b to x s = behind_both (loops.each_of at name.spelling to x s) (λ e. declared name.at name.spelling to s) (λ e t. record c { steps = e.element ∷ e.first ∷ c.steps; state = t })
      (run allow hs (j.Looping b ∷ j.DoStatement (sa.EachLoop at) ∷ j.DoStatement (sa.Close (length c.state.scopes)) ∷ js))

  pub for_each_goes : (at : ℕ) (of : TypeName) (name : Spelled) (over : Expr) (b : Body) → run allow hs (j.ForEach at of name over b ∷ js) c ≡ run allow hs (each_plan (length c.state.scopes) at of name over b ++ js) c
  unfolding run
  for_each_goes at of name over b =
      (λ i. and_then (type_of of) (λ to. (reading allow hs over).value c.state (λ x s. each_by at name b to x s i)))
      ∙ again (type_of of) (λ p. (reading allow hs over).value c.state (λ x s. and_then (bind p (λ to. deeds.each_begun at name to x (record c { state = s }))) (run allow hs (j.Looping b ∷ j.DoStatement (sa.EachLoop at) ∷ j.DoStatement (sa.Close (length c.state.scopes)) ∷ js))))

  pub for_in_goes : (at : ℕ) (name : Spelled) (over : Expr) (b : Body) → run allow hs (j.ForIn at name over b ∷ js) c ≡ run allow hs (each_def_plan (length c.state.scopes) at name over b ++ js) c
  unfolding run
  for_in_goes at name over b = λ i. (reading allow hs over).value c.state (λ x s. each_by at name b ty.Def x s i)

  pub catches_go : (all : List Catch) (i : ℕ) (one : Catch) → slice_get all i ≡ Some one → run allow hs (j.Catches all i ∷ js) c ≡ run allow hs (j.Catch_ one ∷ j.Catches all (i + 1) ∷ js) c
  unfolding run
  catches_go all i one is = ap (λ (t : List Catch). handlers (map (handler allow hs) t) c.state (catches_to c (run allow hs js))) (drop_one i all one is)

  pub catches_end : (all : List Catch) (i : ℕ) → slice_get all i ≡ None → run allow hs (j.Catches all i ∷ js) c ≡ run allow hs js c
  unfolding run
  catches_end all i is = ap (λ (t : List Catch). handlers (map (handler allow hs) t) c.state (catches_to c (run allow hs js))) (drop_end i all is)

  pub try_goes : (at : ℕ) (all : List Catch) → run allow hs (j.Try at all ∷ js) c ≡ run allow hs (j.Catches all 0 ∷ j.DoStatement (sa.Try at (length c.catches)) ∷ js) c
  unfolding run
  try_goes at all = refl

  -- a catch whose name is declared: its block, and what is behind it
  abbrev pub catch_block : Catch → ℕ → State → Braces → Answer
  catch_block e class t block = block.steps t (λ ys s. (run allow hs js) (record c { catches = rules.caught (out-Catch e).at class (out-Catch e).name.spelling (rules.block_of block.at ys) ∷ c.catches; state = closed (length c.state.scopes) s }))

  block_by : (e : Catch) (class : ℕ) (t : State) → catch_block e class t (braces allow hs (out-Catch e).block)
      ≡ statements false false (map (doer allow hs) (out-Block (out-Catch e).block).statements) t (λ ys s. and_then (above (length c.steps) (stacked ys c.steps) (λ zs rest. Ok (record c { steps = rules.block_of (out-Block (out-Catch e).block).at zs ∷ rest; state = s }))) (λ d. and_then (one d.steps (λ y rest. bind (Ok class) (λ class. Ok (record d { steps = rest; catches = rules.caught (out-Catch e).at class (out-Catch e).name.spelling y ∷ d.catches })))) (λ d. run allow hs js (record d { state = closed (length c.state.scopes) d.state }))))
  block_by e class t =
      ap (catch_block e class t) (block_is allow hs (out-Catch e).block)
      ∙ sym (λ i. statements false false (map (doer allow hs) (out-Block (out-Catch e).block).statements) t (λ ys s. and_then (above_stacked ys c.steps (λ zs rest. Ok (record c { steps = rules.block_of (out-Block (out-Catch e).block).at zs ∷ rest; state = s })) i) (λ d. and_then (one d.steps (λ y rest. bind (Ok class) (λ class. Ok (record d { steps = rest; catches = rules.caught (out-Catch e).at class (out-Catch e).name.spelling y ∷ d.catches })))) (λ d. run allow hs js (record d { state = closed (length c.state.scopes) d.state })))))

  pub catch_goes : (e : Catch) → run allow hs (j.Catch_ e ∷ js) c ≡ run allow hs (catch_plan (length c.state.scopes) (length c.steps) (out-Catch e) ++ js) c
  unfolding run
  catch_goes e =
      ap (λ (x : Doing Caught). x c.state (catch_to c (run allow hs js))) (catch_is allow hs e)
      ∙ (λ i. and_then (caught_class (out-Catch e).of) (λ class. and_then (declared (out-Catch e).name.at (out-Catch e).name.spelling (ty.Class class) c.state) (λ t. block_by e class t i)))
      ∙ again_with (caught_class (out-Catch e).of) (λ class p. and_then (declared (out-Catch e).name.at (out-Catch e).name.spelling (ty.Class class) c.state) (λ t.
      statements false false (map (doer allow hs) (out-Block (out-Catch e).block).statements) t (λ ys s. and_then (above (length c.steps) (stacked ys c.steps) (λ zs rest. Ok (record c { steps = rules.block_of (out-Block (out-Catch e).block).at zs ∷ rest; state = s }))) (λ d. and_then (one d.steps (λ y rest. bind p (λ class. Ok (record d { steps = rest; catches = rules.caught (out-Catch e).at class (out-Catch e).name.spelling y ∷ d.catches })))) (λ d. run allow hs js (record d { state = closed (length c.state.scopes) d.state }))))))
      ∙ behind_two (caught_class (out-Catch e).of) (λ class. declared (out-Catch e).name.at (out-Catch e).name.spelling (ty.Class class) c.state) (λ t. record c { state = t }) (run allow hs (j.Statements (out-Block (out-Catch e).block).statements 0 false false ∷ j.DoStatement (sa.Block (out-Block (out-Catch e).block).at (length c.steps)) ∷ j.Caught (out-Catch e).at (out-Catch e).of (out-Catch e).name.spelling ∷ j.DoStatement (sa.Close (length c.state.scopes)) ∷ js))
