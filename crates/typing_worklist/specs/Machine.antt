-- What items come to.
use Rattle.std.specs.Prelude.{ℕ, false, List, [], ◌∷◌, length, reverse, drop, map, Option, Some, None, Ok, Err}
use Rattle.pl_types.specs.declared.rules.TheConstants.{OUT_OF_PROFILE, UNKNOWN_MEMBER}
use Rattle.pl_tree.specs.declared.tree.Argument.{Argument}
use Rattle.pl_tree.specs.declared.tree.Body.{Body}
use Rattle.pl_tree.specs.declared.tree.Expr.{Expr}
use Rattle.pl_tree.specs.declared.tree.First.{First}
use Rattle.pl_tree.specs.declared.tree.TypeName.{TypeName}
use Rattle.typed_tree.specs.declared.statement.TypedVariable.{TypedVariable}
use Rattle.typed_tree.specs.declared.typed.Typed.{Typed}
use Rattle.allowlist.specs.Allow.{AllowList}
use Rattle.typing_rules.specs.declared.header.Header.{Header}
use Rattle.typing_rules.specs.declared.part.Part.{Part}
use Rattle.typing_rules.specs.declared.part.Place.{Place}
use Rattle.typing_rules.specs.declared.part.Step.{Step}
use Rattle.typing_rules.specs.declared.part.Caught.{Caught}
use Rattle.typing_rules.specs.declared.state.State.{State}
use Rattle.pl_types.specs.declared.ty.Ty.TheVariants as ty
use Rattle.typing_rules.specs.Outcomes.{Out, refuse, refusal}
use Rattle.typing_rules.specs.State.{declared}
use Rattle.typing_rules.specs.Doing.{Answer, Doing, ◌>>=◌, pure, by_rule, and_then}
use Rattle.typing_rules.specs.Rules.Types.{type_of}
use Rattle.typing_rules.specs.Rules.Statements.{loop_of, block_of, reached}
use Rattle.typing_rules.specs.Typing as typing
use Rattle.typing_rules.specs.Typing.{value_of, reading, argument, body, doer, braces, for_each, scoped, looping, perhaps, parts, handlers, call, statements, initial, returned, loop_condition, loop_step, loop_update, lambda_parameters}
use Rattle.typing_actions.specs.declared.config.Config.{Config}
use Rattle.typing_actions.specs.Stacks.{one}
use Rattle.typing_actions.specs.Expressions as expressions
use Rattle.typing_actions.specs.Members as members
use Rattle.typing_actions.specs.Places as places
use Rattle.typing_actions.specs.Statements as deeds
use Rattle.typing_actions.specs.Bodies as bodies
use Rattle.typing_worklist.specs.declared.item.Act.{Act}
use Rattle.typing_worklist.specs.declared.item.Act.TheVariants as a
use Rattle.typing_worklist.specs.declared.item.StatementAct.{StatementAct}
use Rattle.typing_worklist.specs.declared.item.StatementAct.TheVariants as s
use Rattle.typing_worklist.specs.declared.item.WordItem.{WordItem}
use Rattle.typing_worklist.specs.declared.item.WordItem.TheVariants as w
use Rattle.typing_worklist.specs.declared.item.BindingItem.{BindingItem}
use Rattle.typing_worklist.specs.declared.item.BindingItem.TheVariants as b
use Rattle.typing_worklist.specs.Folds.{first, inner, handler, declaration, entry, variable, reading_if, argument_if, body_if, first_if}
use Rattle.typing_worklist.specs.Item as j
use Rattle.typing_worklist.specs.Item.{Item}

abbrev pub does : Act → Config → Out Config
does (a.Unbuilt at) c = refuse OUT_OF_PROFILE at
does (a.NoMember at) c = refuse UNKNOWN_MEMBER at
does (a.Constant at of) c = expressions.constant at of c
does (a.Binary at operator) c = expressions.binary operator at c
does (a.Unary at operator) c = expressions.unary operator at c
does (a.Choice at) c = expressions.choice at c
does (a.Elvis at) c = expressions.elvis at c
does (a.Bracketed at) c = expressions.bracketed at c
does (a.List at height) c = expressions.list at height c
does (a.Map at height) c = expressions.map_ at height c
does a.Fixed c = places.fixed c
does (a.Assign at operator) c = places.assign at operator c
does (a.Step at step gives) c = places.step at step gives c
does a.Enter c = Ok (bodies.enter c)

abbrev pub does_statement : StatementAct → Config → Out Config
does_statement s.Test c = deeds.test c
does_statement s.LoopTest c = deeds.loop_test c
does_statement s.NoTest c = deeds.no_test c
does_statement (s.Declaration at height) c = deeds.declaration at height c
does_statement (s.Expression at last) c = deeds.expression at last c
does_statement (s.ReturnValue at) c = deeds.return_value at c
does_statement (s.ReturnNothing at) c = deeds.return_nothing at c
does_statement (s.Throw at) c = deeds.throw at c
does_statement (s.Break at) c = deeds.break_loop at c
does_statement (s.Continue at) c = deeds.continue_loop at c
does_statement (s.Block at height) c = deeds.block at height c
does_statement (s.IfAlone at) c = deeds.if_alone at c
does_statement (s.IfElse at) c = deeds.if_else at c
does_statement (s.Loop at has_first has_body) c = deeds.whole_loop at has_first has_body c
does_statement (s.DoLoop at) c = deeds.do_loop at c
does_statement (s.EachLoop at) c = deeds.each_loop at c
does_statement (s.Try at height) c = deeds.whole_try at height c
does_statement (s.Close height) c = Ok (bodies.close height c)
does_statement (s.Looped is) c = Ok (bodies.looped is c)

-- what is done with a name, a spelling, a type or an expression of the script
abbrev pub does_word : AllowList → List Header → WordItem → Config → Out Config
does_word allow hs (w.Called at name height) c = expressions.call hs at name.now height c
does_word allow hs (w.Integer at spelling) c = expressions.integer at spelling.now c
does_word allow hs (w.NegatedInteger minus at spelling) c = expressions.negated_integer minus at spelling.now c
does_word allow hs (w.Text at spelling) c = expressions.text at spelling.now c
does_word allow hs (w.Name at spelling) c = expressions.local at spelling.now c
does_word allow hs (w.Written at spelling) c = places.written at spelling.now c
does_word allow hs (w.TypeOf of) c = bodies.look_at of.now c
does_word allow hs (w.Asked at of) c = expressions.asked at of.now c
does_word allow hs (w.InstanceOf at of) c = expressions.instance_of at of.now c
does_word allow hs (w.MethodCalled at access name height) c = members.method allow at access name.now height c
does_word allow hs (w.StaticCalled at access of name height) c = members.static allow at access of.now name.now height c
does_word allow hs (w.Made at of height) c = members.made allow at of.now height c
does_word allow hs (w.Read at access name) c = members.read allow at access name.now c
does_word allow hs (w.Numbered at access digits) c = members.numbered allow at access digits.now c
does_word allow hs (w.Indexed at) c = members.indexed allow at c
does_word allow hs (w.ArrayMade at of height) c = expressions.array at of.now height c
does_word allow hs (w.ArrayFilled at of height) c = expressions.array_with at of.now height c
does_word allow hs (w.WrittenName at by name) c = places.named allow by at name.now c
does_word allow hs (w.WrittenNumber at by digits) c = places.numbered allow by at digits.now c
does_word allow hs (w.WrittenIndex at by) c = places.indexed allow by at c
does_word allow hs (w.Field at access of name) c = members.field allow at access of.now name.now c
does_word allow hs (w.Begun e) c = deeds.deed (reading allow hs e.now).first c
does_word allow hs (w.Updated e) c = deeds.update (reading allow hs e.now).first c

-- what is done with a name that a statement declares, or with its type
abbrev pub does_binding : BindingItem → Config → Out Config
does_binding (b.CastInitial of) c = deeds.initial of.now c
does_binding (b.Declare name of) c = deeds.variable name.now of.now c
does_binding (b.Each at name of) c = deeds.each at name.now of.now c
does_binding (b.EachDef at name) c = deeds.each_def at name.now c
does_binding (b.Named name of) c = bodies.declare_of name.now of.now c
does_binding (b.NamedDef name) c = bodies.declare name.now ty.Def c
does_binding (b.Catching of name) c = deeds.catching of.now name.now c
does_binding (b.Caught at of name) c = deeds.catch at of.now name.now c

-- some, the first first, are put on a stack
abbrev pub stacked : {A : Type 0} → List A → List A → List A
stacked [] below = below
stacked (x ∷ xs) below = stacked xs (x ∷ below)

abbrev pub part_to : Config → (Config → Answer) → Part → State → Answer
part_to c k x s = k (record c { parts = x ∷ c.parts; state = s })

abbrev pub parts_to : Config → (Config → Answer) → List Part → State → Answer
parts_to c k xs s = k (record c { parts = stacked xs c.parts; state = s })

abbrev pub place_to : Config → (Config → Answer) → Place → State → Answer
place_to c k p s = k (record c { places = p ∷ c.places; state = s })

abbrev pub test_to : Config → (Config → Answer) → Option Typed → State → Answer
test_to c k x s = k (record c { tests = x ∷ c.tests; state = s })

abbrev pub variable_to : Config → (Config → Answer) → TypedVariable → State → Answer
variable_to c k x s = k (record c { variables = x ∷ c.variables; state = s })

abbrev pub variables_to : Config → (Config → Answer) → List TypedVariable → State → Answer
variables_to c k xs s = k (record c { variables = stacked xs c.variables; state = s })

abbrev pub step_to : Config → (Config → Answer) → Step → State → Answer
step_to c k y s = k (record c { steps = y ∷ c.steps; state = s })

abbrev pub steps_to : Config → (Config → Answer) → List Step → State → Answer
steps_to c k ys s = k (record c { steps = stacked ys c.steps; state = s })

abbrev pub block_to : Config → (Config → Answer) → ℕ → List Step → State → Answer
block_to c k at ys s = k (record c { steps = block_of at ys ∷ c.steps; state = s })

abbrev pub catch_to : Config → (Config → Answer) → Caught → State → Answer
catch_to c k x s = k (record c { catches = x ∷ c.catches; state = s })

abbrev pub catches_to : Config → (Config → Answer) → List Caught → State → Answer
catches_to c k xs s = k (record c { catches = stacked xs c.catches; state = s })

-- nothing is given
abbrev pub nothing_to : Config → (Config → Answer) → Unit {0} → State → Answer
nothing_to c k u s = k (record c { state = s })

-- what is not built is refused behind its parts
abbrev pub refused_at : {A : Type 0} → ℕ → A → State → Answer
refused_at at x s = Err (refusal OUT_OF_PROFILE at)

module _ (allow : AllowList) (hs : List Header) where
  -- a `for` in its scope
  abbrev pub for_parts : ℕ → Option First → Option Expr → Option Expr → Option Body → Doing Step
  for_parts at f c u b =
      do f ← perhaps (first_if allow hs f); c ← loop_condition (reading_if allow hs c); u ← loop_update (reading_if allow hs u); y ← looping (perhaps (body_if allow hs b)); pure (loop_of at f c u y)

  -- an `else`, or none
  abbrev pub otherwise : ℕ → Option Body → Config → (Config → Answer) → Answer
  otherwise at None c k = and_then (deeds.if_alone at c) k
  otherwise at (Some b) c k = body allow hs b c.state (step_to c (λ d. and_then (deeds.if_else at d) k))

  abbrev pub loop_body : Option Body → Config → (Config → Answer) → Answer
  loop_body None c k = k c
  loop_body (Some b) c k = looping (body allow hs b) c.state (step_to c k)

  abbrev pub initial_part : TypeName → Option Argument → Config → (Config → Answer) → Answer
  initial_part of None c k = k (record c { tests = None ∷ c.tests })
  initial_part of (Some e) c k = argument allow hs e c.state (part_to c (λ d. and_then (deeds.initial of d) k))

  abbrev pub first_part : Option First → Config → (Config → Answer) → Answer
  first_part None c k = k c
  first_part (Some f) c k = first allow hs f c.state (step_to c k)

abbrev pub mean : AllowList → List Header → Item → Config → (Config → Answer) → Answer
mean allow hs (j.Value e) c k = (reading allow hs e).value c.state (part_to c k)
mean allow hs (j.Negated e minus) c k = (reading allow hs e).negated minus c.state (part_to c k)
mean allow hs (j.Target e by) c k = (reading allow hs e).place by c.state (place_to c k)
mean allow hs (j.Given e) c k = argument allow hs e c.state (part_to c k)
mean allow hs (j.Arguments all i) c k = parts (map (argument allow hs) (drop i all)) c.state (parts_to c k)
mean allow hs (j.Call at name all) c k = call allow hs at name (map (argument allow hs) all) c.state (part_to c k)
mean allow hs (j.Called at name height) c k = and_then (expressions.call hs at name height c) k
mean allow hs (j.Method at access name all) c k = parts (map (argument allow hs) all) c.state (parts_to c (λ d. and_then (members.method allow at access name (length c.parts) d) k))
mean allow hs (j.MethodCalled at access name height) c k = and_then (members.method allow at access name height c) k
mean allow hs (j.Static at access of name all) c k = parts (map (argument allow hs) all) c.state (parts_to c (λ d. and_then (members.static allow at access of name (length c.parts) d) k))
mean allow hs (j.StaticCalled at access of name height) c k = and_then (members.static allow at access of name height c) k
mean allow hs (j.New at of all) c k = parts (map (argument allow hs) all) c.state (parts_to c (λ d. and_then (members.made allow at of (length c.parts) d) k))
mean allow hs (j.Made at of height) c k = and_then (members.made allow at of height c) k
mean allow hs (j.Read at access name) c k = and_then (members.read allow at access name c) k
mean allow hs (j.Numbered at access digits) c k = and_then (members.numbered allow at access digits c) k
mean allow hs (j.Indexed at) c k = and_then (members.indexed allow at c) k
mean allow hs (j.Values all i) c k = parts (map value_of (map (reading allow hs) (drop i all))) c.state (parts_to c k)
mean allow hs (j.Entries all i) c k = typing.entries (map (entry allow hs) (drop i all)) c.state (parts_to c k)
mean allow hs (j.ListOf at all) c k = parts (map value_of (map (reading allow hs) all)) c.state (parts_to c (λ d. and_then (expressions.list at (length c.parts) d) k))
mean allow hs (j.MapOf at all) c k = typing.entries (map (entry allow hs) all) c.state (parts_to c (λ d. and_then (expressions.map_ at (length c.parts) d) k))
mean allow hs (j.ArrayOf at of all) c k = parts (map value_of (map (reading allow hs) all)) c.state (parts_to c (λ d. and_then (expressions.array at of (length c.parts) d) k))
mean allow hs (j.ArrayWith at of all) c k = parts (map value_of (map (reading allow hs) all)) c.state (parts_to c (λ d. and_then (expressions.array_with at of (length c.parts) d) k))
mean allow hs (j.ArrayMade at of height) c k = and_then (expressions.array at of height c) k
mean allow hs (j.ArrayFilled at of height) c k = and_then (expressions.array_with at of height c) k
mean allow hs (j.WrittenName at by name) c k = and_then (places.named allow by at name c) k
mean allow hs (j.WrittenNumber at by digits) c k = and_then (places.numbered allow by at digits c) k
mean allow hs (j.WrittenIndex at by) c k = and_then (places.indexed allow by at c) k
mean allow hs (j.Field at access of name) c k = and_then (members.field allow at access of name c) k
mean allow hs (j.Integer at spelling) c k = and_then (expressions.integer at spelling c) k
mean allow hs (j.NegatedInteger minus at spelling) c k = and_then (expressions.negated_integer minus at spelling c) k
mean allow hs (j.Text at spelling) c k = and_then (expressions.text at spelling c) k
mean allow hs (j.Name at name) c k = and_then (expressions.local at name c) k
mean allow hs (j.Written at name) c k = and_then (places.written at name c) k
mean allow hs (j.TypeOf of) c k = and_then (type_of of) (λ t. k c)
mean allow hs (j.Asked at of) c k = and_then (expressions.asked at of c) k
mean allow hs (j.InstanceOf at of) c k = and_then (expressions.instance_of at of c) k
mean allow hs (j.Do act) c k = and_then (does act c) k
mean allow hs (j.Statement_ e last) c k = (doer allow hs e).typed last c.state (step_to c k)
mean allow hs (j.Body_ e) c k = body allow hs e c.state (step_to c k)
mean allow hs (j.Scoped e) c k = scoped ((doer allow hs e).typed false) c.state (step_to c k)
mean allow hs (j.Block_ e) c k = scoped (braces allow hs e).steps c.state (block_to c k (braces allow hs e).at)
mean allow hs (j.Looping e) c k = looping (body allow hs e) c.state (step_to c k)
mean allow hs (j.LoopBody e) c k = loop_body allow hs e c k
mean allow hs (j.LoopBlock e) c k = looping (scoped (braces allow hs e).steps) c.state (block_to c k (braces allow hs e).at)
mean allow hs (j.Statements all i in_main after) c k = statements in_main after (map (doer allow hs) (drop i all)) c.state (steps_to c k)
mean allow hs (j.Reached all i at in_main after) c k = one c.steps (λ x rest. and_then (reached after at x) (λ y.
    statements in_main y.escapes (map (doer allow hs) (drop i all)) c.state (λ ys s. k (record c { steps = stacked ys (y ∷ rest); state = s }))))
mean allow hs (j.For at f d u b) c k = scoped (for_parts allow hs at f d u b) c.state (step_to c k)
mean allow hs (j.ForParts at f d u b) c k = for_parts allow hs at f d u b c.state (step_to c k)
mean allow hs (j.ForEach at of name over body_) c k = for_each at (by_rule (type_of of)) name (reading allow hs over) (body allow hs body_) c.state (step_to c k)
mean allow hs (j.ForIn at name over body_) c k = for_each at (pure ty.Def) name (reading allow hs over) (body allow hs body_) c.state (step_to c k)
mean allow hs (j.Each at name of) c k = and_then (deeds.each at name of c) k
mean allow hs (j.EachDef at name) c k = and_then (deeds.each_def at name c) k
mean allow hs (j.FirstIf e) c k = first_part allow hs e c k
mean allow hs (j.First_ e) c k = first allow hs e c.state (step_to c k)
mean allow hs (j.Deed e) c k = loop_step (reading allow hs e) c.state (step_to c k)
mean allow hs (j.Begun e) c k = and_then (deeds.deed (reading allow hs e).first c) k
mean allow hs (j.Condition e) c k = loop_condition (reading_if allow hs e) c.state (test_to c k)
mean allow hs (j.UpdateIf e) c k = loop_update (reading_if allow hs e) c.state (test_to c k)
mean allow hs (j.Update e) c k = loop_update (Some (reading allow hs e)) c.state (test_to c k)
mean allow hs (j.Updated e) c k = and_then (deeds.update (reading allow hs e).first c) k
mean allow hs (j.Otherwise at e) c k = otherwise allow hs at e c k
mean allow hs (j.Returned at e) c k = returned at (argument_if allow hs e) c.state (step_to c k)
mean allow hs (j.Declaration_ e) c k = (declaration allow hs e).typed false c.state (step_to c k)
mean allow hs (j.Variables of all i) c k = and_then (type_of of) (λ t. typing.variables t (map (variable allow hs) (drop i all)) c.state (variables_to c k))
mean allow hs (j.Variable_ of e) c k = and_then (type_of of) (λ t. variable allow hs e t c.state (variable_to c k))
mean allow hs (j.Initial of e) c k = initial_part allow hs of e c k
mean allow hs (j.CastInitial of) c k = and_then (deeds.initial of c) k
mean allow hs (j.Declare name of) c k = and_then (deeds.variable name of c) k
mean allow hs (j.DoStatement act) c k = and_then (does_statement act c) k
mean allow hs (j.Named name of) c k = and_then (type_of of) (λ t. and_then (declared name.at name.spelling t c.state) (λ s. k (record c { state = s })))
mean allow hs (j.NamedDef name) c k = and_then (declared name.at name.spelling ty.Def c.state) (λ s. k (record c { state = s }))
mean allow hs (j.Parameters all i) c k = lambda_parameters (drop i all) c.state (nothing_to c k)
mean allow hs (j.UnbuiltInner e at) c k = inner allow hs e c.state (refused_at at)
mean allow hs (j.Try at all) c k = handlers (map (handler allow hs) all) c.state (catches_to c (λ d. and_then (deeds.whole_try at (length c.catches) d) k))
mean allow hs (j.Catches all i) c k = handlers (map (handler allow hs) (drop i all)) c.state (catches_to c k)
mean allow hs (j.Catch_ e) c k = handler allow hs e c.state (catch_to c k)
mean allow hs (j.Catching of name) c k = and_then (deeds.catching of name c) k
mean allow hs (j.Caught at of name) c k = and_then (deeds.catch at of name c) k

abbrev pub ended : Config → Answer
ended c = Ok (reverse c.steps, c.state)

-- what items come to, one after the other
unfoldable pub run : AllowList → List Header → List Item → Config → Answer
run allow hs [] c = ended c
run allow hs (x ∷ rest) c = mean allow hs x c (run allow hs rest)
