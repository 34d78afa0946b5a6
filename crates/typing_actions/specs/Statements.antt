-- Acts on statements.
use Rattle.std.specs.Prelude.{ℕ, Bool, true, false, List, ◌∷◌, Option, Some, None, Ok}
use Rattle.pl_types.specs.declared.ty.Ty.{Ty}
use Rattle.pl_types.specs.declared.ty.Ty.TheVariants as ty
use Rattle.pl_tree.specs.declared.tree.Spelled.{Spelled}
use Rattle.pl_tree.specs.declared.tree.TypeName.{TypeName}
use Rattle.typed_tree.specs.declared.typed.Typed.{Typed}
use Rattle.typing_rules.specs.declared.part.Part.{Part}
use Rattle.typing_rules.specs.declared.part.Step.{Step}
use Rattle.typing_rules.specs.Outcomes.{Out, bind}
use Rattle.typing_rules.specs.State.{declared}
use Rattle.typing_rules.specs.Rules.Types.{type_of, caught_class}
use Rattle.typing_rules.specs.Rules.Casts.{cast_to}
use Rattle.typing_rules.specs.Rules.Loops as loops
use Rattle.typing_rules.specs.Rules.Statements as rules
use Rattle.typing_actions.specs.declared.config.Config.{Config}
use Rattle.typing_actions.specs.Stacks.{stuck, one, two, three, above, with_step, with_test}

-- the test of an `if`
abbrev pub test : Config → Out Config
test c = one c.parts (λ x rest. with_test (record c { parts = rest }) (bind (rules.test x) (λ t. Ok (Some t))))

-- that of a loop
abbrev pub loop_test : Config → Out Config
loop_test c = one c.parts (λ x rest. with_test (record c { parts = rest }) (rules.loop_test x))

-- nothing is there
abbrev pub no_test : Config → Out Config
no_test c = Ok (record c { tests = None ∷ c.tests })

-- what a `for` begins with
abbrev pub deed : ℕ → Config → Out Config
deed at c = one c.parts (λ x rest. with_step (record c { parts = rest }) (rules.deed at x))

-- and goes on with
abbrev pub update : ℕ → Config → Out Config
update at c = one c.parts (λ x rest. with_test (record c { parts = rest }) (bind (rules.deed at x) (λ y. Ok (Some x.typed))))

-- what a variable begins with, cast to a type that was looked at before
abbrev pub initial : TypeName → Config → Out Config
initial of c = one c.parts (λ x rest. with_test (record c { parts = rest }) (bind (type_of of) (λ to. bind (cast_to to x) (λ y. Ok (Some y)))))

abbrev pub variable_to : Spelled → TypeName → Option Typed → List (Option Typed) → Config → Out Config
variable_to name of value rest c = bind (type_of of) (λ to. bind (rules.variable_of name to value c.state) (λ p.
    Ok (record c { tests = rest; variables = p.0 ∷ c.variables; state = p.1 })))

abbrev pub variable : Spelled → TypeName → Config → Out Config
variable name of c = one c.tests (λ value rest. variable_to name of value rest c)

abbrev pub declaration : ℕ → ℕ → Config → Out Config
declaration at height c = above height c.variables (λ vs rest. Ok (record c { variables = rest; steps = rules.declaration_of at vs ∷ c.steps }))

abbrev pub expression : ℕ → Bool → Config → Out Config
expression at last c = one c.parts (λ x rest. with_step (record c { parts = rest }) (rules.expression_of at last x c.state))

abbrev pub return_value : ℕ → Config → Out Config
return_value at c = one c.parts (λ x rest. with_step (record c { parts = rest }) (rules.return_of at x c.state))

abbrev pub throw : ℕ → Config → Out Config
throw at c = one c.parts (λ x rest. with_step (record c { parts = rest }) (rules.throw_of at x))

abbrev pub return_nothing : ℕ → Config → Out Config
return_nothing at c = with_step c (rules.nothing_returned at c.state)

abbrev pub break_loop : ℕ → Config → Out Config
break_loop at c = with_step c (rules.break_of at c.state)

abbrev pub continue_loop : ℕ → Config → Out Config
continue_loop at c = with_step c (rules.continue_of at c.state)

abbrev pub block : ℕ → ℕ → Config → Out Config
block at height c = above height c.steps (λ ys rest. Ok (record c { steps = rules.block_of at ys ∷ rest }))

abbrev pub if_with : ℕ → Option Typed → Step → Option Step → List (Option Typed) → List Step → Config → Out Config
if_with at None y n tests rest c = stuck
if_with at (Some x) y n tests rest c = Ok (record c { tests = tests; steps = rules.if_of at x y n ∷ rest })

abbrev pub if_alone : ℕ → Config → Out Config
if_alone at c = one c.tests (λ x tests. one c.steps (λ y rest. if_with at x y None tests rest c))

abbrev pub if_else : ℕ → Config → Out Config
if_else at c = one c.tests (λ x tests. two c.steps (λ y n rest. if_with at x y (Some n) tests rest c))

-- a step that is there or not
abbrev pub step_if : {B : Type 0} → Bool → List Step → (Option Step → List Step → Out B) → Out B
step_if false ys f = f None ys
step_if true ys f = one ys (λ y rest. f (Some y) rest)

-- a loop, with its test and its update, and with a first step and a body where there are some
abbrev pub whole_loop : ℕ → Bool → Bool → Config → Out Config
whole_loop at has_first has_body c = two c.tests (λ test update tests. step_if has_body c.steps (λ body below. step_if has_first below (λ first rest.
    Ok (record c { tests = tests; steps = rules.loop_of at first test update body ∷ rest }))))

-- How a loop over elements begins: the declarations of its iterator and of its variable are there, and the variable is in sight.
abbrev pub each_begun : ℕ → Spelled → Ty → Part → Config → Out Config
each_begun at name to x c = bind (loops.each_of at name.spelling to x c.state) (λ e. bind (declared name.at name.spelling to c.state) (λ s.
    Ok (record c { steps = e.element ∷ e.first ∷ c.steps; state = s })))

abbrev pub each : ℕ → Spelled → TypeName → Config → Out Config
each at name of c = one c.parts (λ x rest. bind (type_of of) (λ to. each_begun at name to x (record c { parts = rest })))

-- the same of a variable of type def
abbrev pub each_def : ℕ → Spelled → Config → Out Config
each_def at name c = one c.parts (λ x rest. each_begun at name ty.Def x (record c { parts = rest }))

-- a loop over elements, with its body
abbrev pub each_loop : ℕ → Config → Out Config
each_loop at c = three c.steps (λ first element body rest. Ok (record c { steps = loops.each_loop at first element body ∷ rest }))

abbrev pub do_loop : ℕ → Config → Out Config
do_loop at c = one c.tests (λ test tests. one c.steps (λ body rest. Ok (record c { tests = tests; steps = rules.do_of at body test ∷ rest })))

-- the name of a catch, which is in sight in its block
abbrev pub catching : TypeName → Spelled → Config → Out Config
catching of name c = bind (caught_class of) (λ class. bind (declared name.at name.spelling (ty.Class class) c.state) (λ s. Ok (record c { state = s })))

-- a catch of a type that was looked at before, whose block is typed
abbrev pub catch : ℕ → TypeName → List ℕ → Config → Out Config
catch at of name c = one c.steps (λ y rest. bind (caught_class of) (λ class. Ok (record c { steps = rest; catches = rules.caught at class name y ∷ c.catches })))

-- a `try`, whose block is typed, with the catches above a height
abbrev pub whole_try : ℕ → ℕ → Config → Out Config
whole_try at height c = above height c.catches (λ cs below. one c.steps (λ y rest. Ok (record c { steps = rules.try_of at y cs ∷ rest; catches = below })))
