-- The typing of each node, by that of its parts: the parts from the left to the right, and then the node. What is not built is refused
-- as OutOfProfile at its place, once its parts refused nothing.
use Rattle.std.specs.Prelude.{ℕ, Bool, true, false, ◌&&◌, List, [], ◌∷◌, length, map, Option, Some, None, Ok}
use Rattle.pl_types.specs.declared.ty.Ty.{Ty}
use Rattle.pl_types.specs.declared.ty.Ty.TheVariants as t
use Rattle.pl_types.specs.declared.rules.TheConstants.{OUT_OF_PROFILE, UNKNOWN_MEMBER}
use Rattle.pl_tree.specs.declared.operator.UnaryOperator.{UnaryOperator}
use Rattle.pl_tree.specs.declared.operator.UnaryOperator.TheVariants as sign
use Rattle.pl_tree.specs.declared.tree.Spelled.{Spelled}
use Rattle.pl_tree.specs.declared.tree.TypeName.{TypeName}
use Rattle.pl_tree.specs.declared.tree.Parameter.{Parameter}
use Rattle.pl_tree.specs.declared.tree.Function.{Function}
use Rattle.pl_tree.specs.declared.tree.Tree.{Tree}
use Rattle.pl_tree.specs.declared.tree.Argument.{Argument}
use Rattle.pl_tree.specs.declared.tree.Body.{Body}
use Rattle.pl_tree.specs.declared.tree.Expr.{Expr}
use Rattle.pl_tree.specs.declared.tree.Statement.{Statement}
use Rattle.pl_tree.specs.declared.tree.Block.{Block}
use Rattle.pl_tree.specs.declared.tree.Argument.TheOpen.{Argument-F, Body-F, Expr-F, First-F, LambdaBody-F, Statement-F, Block-F, Catch-F, Declaration-F, Entry-F, Variable-F}
use Rattle.pl_tree.specs.declared.tree.Argument.TheFolds.{fold-Argument, fold-Body, fold-Expr, fold-Statement, fold-Block}
use Rattle.typed_tree.specs.declared.operation.Gives.TheVariants as g
use Rattle.typed_tree.specs.declared.program.Program.{Program}
use Rattle.typed_tree.specs.declared.program.TypedFunction.{TypedFunction}
use Rattle.typed_tree.specs.declared.statement.TypedVariable.{TypedVariable}
use Rattle.typed_tree.specs.declared.typed.Typed.{Typed}
use Rattle.typing_rules.specs.declared.header.ContextTypes.{ContextTypes}
use Rattle.typing_rules.specs.declared.header.Header.{Header}
use Rattle.typing_rules.specs.declared.part.Part.{Part}
use Rattle.typing_rules.specs.declared.part.Place.{Place}
use Rattle.typing_rules.specs.declared.part.Place.TheVariants as place
use Rattle.typing_rules.specs.declared.part.Step.{Step}
use Rattle.typing_rules.specs.declared.part.Caught.{Caught}
use Rattle.typing_rules.specs.declared.state.State.{State}
use Rattle.typing_rules.specs.Outcomes.{Out, refuse, bind}
use Rattle.typing_rules.specs.State.{closed, declared}
use Rattle.typing_rules.specs.Doing.{Answer, Doing, ◌>>=◌, ◌>>◌, pure, by_rule, looking, changing, setting, stating, known}
use Rattle.typing_rules.specs.Rules.Types.{type_of, caught_class}
use Rattle.typing_rules.specs.Rules.Nodes.{bracketed}
use Rattle.typing_rules.specs.Rules.Literals.{integer, negated_integer, constant, text}
use Rattle.typing_rules.specs.Rules.Casts.{cast_to, asked}
use Rattle.typing_rules.specs.Rules.Operators.{binary_of, unary_of, choice_of, elvis_of, instance_of}
use Rattle.typing_rules.specs.Rules.Places.{local, written, assign_of, step_of}
use Rattle.typing_rules.specs.Rules.Accesses.{read_of, numbered_of, index_of}
use Rattle.typing_rules.specs.Rules.Locations.{name_location, number_location, index_location}
use Rattle.typing_rules.specs.Rules.Containers.{list_of, map_of, array_of, array_with}
use Rattle.typing_rules.specs.Rules.Loops.{each_of, each_loop}
use Rattle.pl_tree.specs.declared.operator.BinaryOperator.{BinaryOperator}
use Rattle.allowlist.specs.Allow.{AllowList}
use Rattle.pl_tree.specs.declared.operator.Access.{Access}
use Rattle.pl_tree.specs.declared.operator.Access.TheVariants as access
use Rattle.typing_rules.specs.Rules.Calls.{call_of}
use Rattle.typing_rules.specs.Rules.Members.{field_of, method_of, static_of, new_of}
use Rattle.typing_rules.specs.Rules.Statements.{reached, deed, expression_of, variable_of, declaration_of, test, loop_test, if_of, loop_of, do_of, break_of, continue_of, return_of, nothing_returned, throw_of, block_of, caught, try_of}
use Rattle.typing_rules.specs.Rules.Functions.{headers, function_start, main_start, finished, main}

-- An expression: its first token, the type that it is where it is none, its value, its value directly behind a minus that stands at a place,
-- and what it is to be written to. What reads it too stands at a place.
pub record Reading : Type 0 where
  pub first : ℕ
  pub names : Option (Doing Ty)
  pub value : Doing Part
  pub negated : ℕ → Doing Part
  pub place : Option ℕ → Doing Place

-- a statement at its first token; it may be the last of the main script
pub record Doer : Type 0 where
  pub at : ℕ
  pub typed : Bool → Doing Step

-- a block at its `{`
pub record Braces : Type 0 where
  pub at : ℕ
  pub steps : Doing (List Step)

abbrev pub Seen : Type 0
Seen = Doing (Unit {0})

-- what is no variable is not written to
abbrev pub fixed : Doing Part → Option ℕ → Doing Place
fixed value by = do x ← value; pure place.Fixed

-- an assignment with an operator reads too
abbrev pub read_at : ℕ → Option BinaryOperator → Option ℕ
read_at at None = None
read_at at (Some operator) = Some at

-- what is no literal and no name
abbrev pub plain : ℕ → Doing Part → Reading
plain first value = record {
  first = first;
  names = None;
  value = value;
  negated = λ minus. (do x ← value; by_rule (unary_of sign.Minus minus x));
  place = fixed value;
}

-- what is not built
abbrev pub unbuilt : {A : Type 0} → ℕ → Doing A
unbuilt at = by_rule (refuse OUT_OF_PROFILE at)

-- a part that is only looked through
abbrev pub seen : {A : Type 0} → Doing A → Seen
seen m = do x ← m; pure tt

-- the names that a part declares are gone behind it
abbrev pub scoped : {A : Type 0} → Doing A → Doing A
scoped m = do s ← known; x ← m; setting (closed (length s.scopes)); pure x

-- a loop is around a part
abbrev pub looping : {A : Type 0} → Doing A → Doing A
looping m = do s ← known; setting (λ t. record t { looped = true }); x ← m; setting (λ t. record t { looped = s.looped }); pure x

abbrev pub perhaps : {A : Type 0} → Option (Doing A) → Doing (Option A)
perhaps None = pure None
perhaps (Some m) = do x ← m; pure (Some x)

abbrev pub is_empty : List Doer → Bool
is_empty [] = true
is_empty (m ∷ rest) = false

-- parts, from the left to the right
abbrev pub parts : List (Doing Part) → Doing (List Part)
parts [] = pure []
parts (m ∷ rest) = do x ← m; xs ← parts rest; pure (x ∷ xs)

abbrev pub value_of : Reading → Doing Part
value_of e = e.value

-- entries of a map, from the left to the right: each a key, and a value
abbrev pub entries : List (Doing (Part × Part)) → Doing (List Part)
entries [] = pure []
entries (m ∷ rest) = do p ← m; xs ← entries rest; pure (p.0 ∷ p.1 ∷ xs)

-- Statements; behind one that escapes stands none. The last of the main script may be its result.
abbrev pub statements : Bool → Bool → List Doer → Doing (List Step)
statements in_main after [] = pure []
statements in_main after (m ∷ rest) =
    do x ← m.typed (in_main && is_empty rest); y ← by_rule (reached after m.at x); ys ← statements in_main y.escapes rest; pure (y ∷ ys)

abbrev pub variables : Ty → List (Ty → Doing TypedVariable) → Doing (List TypedVariable)
variables of [] = pure []
variables of (m ∷ rest) = do x ← m of; xs ← variables of rest; pure (x ∷ xs)

-- what a variable begins with, cast to its type
abbrev pub initial : Ty → Option (Doing Part) → Doing (Option Typed)
initial of None = pure None
initial of (Some m) = do x ← m; y ← by_rule (cast_to of x); pure (Some y)

abbrev pub returned : ℕ → Option (Doing Part) → Doing Step
returned at None = looking (nothing_returned at)
returned at (Some m) = do x ← m; looking (return_of at x)

-- the test of a loop, which may be missing
abbrev pub loop_condition : Option Reading → Doing (Option Typed)
loop_condition None = pure None
loop_condition (Some c) = do x ← c.value; by_rule (loop_test x)

-- what a `for` begins and goes on with
abbrev pub loop_step : Reading → Doing Step
loop_step e = do x ← e.value; by_rule (deed e.first x)

abbrev pub loop_update : Option Reading → Doing (Option Typed)
loop_update None = pure None
loop_update (Some e) = do x ← e.value; y ← by_rule (deed e.first x); pure (Some x.typed)

-- A function value is not built: its parameters are declared, and its body is looked through. It copies the names around it, and no loop is
-- around its body. A parameter without a type, and its result, are of type def.
abbrev pub alone : State → State
alone s = record s { base = length s.scopes; result = t.Def; looped = false }

abbrev pub parameter_type : Option TypeName → Out Ty
parameter_type None = Ok t.Def
parameter_type (Some of) = type_of of

abbrev pub lambda_parameters : List Parameter → Seen
lambda_parameters [] = pure tt
lambda_parameters (p ∷ ps) = do of ← by_rule (parameter_type p.of); changing (declared p.name.at p.name.spelling of); lambda_parameters ps

abbrev pub lambda : ℕ → List Parameter → Seen → Doing Part
lambda at ps body = do setting alone; lambda_parameters ps; body; unbuilt at

-- the catches of a `try`, the first first
abbrev pub handlers : List (Doing Caught) → Doing (List Caught)
handlers [] = pure []
handlers (m ∷ rest) = do x ← m; xs ← handlers rest; pure (x ∷ xs)

-- a loop over elements, whose variable is in sight in its body
abbrev pub for_each : ℕ → Doing Ty → Spelled → Reading → Doing Step → Doing Step
for_each at type name over body =
    scoped (do of ← type; x ← over.value; e ← looking (each_of at name.spelling of x); changing (declared name.at name.spelling of); y ← looping body; pure (each_loop at e.first e.element y))

module _ (allow : AllowList) (hs : List Header) where
  abbrev pub call : ℕ → List ℕ → List (Doing Part) → Doing Part
  call at name given = do xs ← parts given; by_rule (call_of hs at name xs)

  abbrev pub Open : (Type 0 → Type 0 → Type 0 → Type 0 → Type 0 → Type 0 → Type 0 → Type 0 → Type 0 → Type 0 → Type 0 → Type 0) → Type 0
  Open F = F (Doing Part) (Doing Step) Reading (Doing Step) Seen Doer Braces (Doing Caught) Doer (Doing (Part × Part)) (Ty → Doing TypedVariable)

  -- a member of a value, or of the class that a type names
  abbrev pub read : Access → ℕ → Reading → Option (Doing Ty) → List ℕ → Doing Part
  read access at receiver None name = do x ← receiver.value; by_rule (read_of allow access at name x)
  read access at receiver (Some type) name = do t ← type; by_rule (field_of allow access at name t)

  -- A name behind a dot as what is written to. A name of a class, and one behind `?.`, are read, and are not written to.
  abbrev pub member_place : Access → ℕ → Reading → Option (Doing Ty) → List ℕ → Doing Part → Option ℕ → Doing Place
  member_place access.Plain at receiver None name value by = do x ← receiver.value; by_rule (name_location allow by at name x)
  member_place access.Plain at receiver (Some type) name value by = fixed value by
  member_place access.Guarded at receiver names name value by = fixed value by

  -- an element by its number; a class has none
  abbrev pub element : Access → ℕ → Reading → Option (Doing Ty) → List ℕ → Doing Part
  element access at receiver None digits = do x ← receiver.value; by_rule (numbered_of allow access at digits x)
  element access at receiver (Some type) digits = do t ← type; by_rule (refuse UNKNOWN_MEMBER at)

  abbrev pub element_place : Access → ℕ → Reading → Option (Doing Ty) → List ℕ → Doing Part → Option ℕ → Doing Place
  element_place access.Plain at receiver None digits value by = do x ← receiver.value; by_rule (number_location allow by at digits x)
  element_place access.Plain at receiver (Some type) digits value by = fixed value by
  element_place access.Guarded at receiver names digits value by = fixed value by

  abbrev pub method : Access → ℕ → Reading → Option (Doing Ty) → List ℕ → List (Doing Part) → Doing Part
  method access at receiver None name given = do x ← receiver.value; xs ← parts given; by_rule (method_of allow access at name x xs)
  method access at receiver (Some type) name given = do t ← type; xs ← parts given; by_rule (static_of allow access at name t xs)

  abbrev pub argument_step : Open Argument-F → Doing Part
  argument_step (Argument-F.Value value) = value.value
  argument_step (Argument-F.Lambda at parameters body) = lambda at parameters body
  argument_step (Argument-F.Reference of spelling) = do t ← by_rule (type_of of); unbuilt of.at
  argument_step (Argument-F.NewReference of) = do t ← by_rule (type_of of); unbuilt of.at
  argument_step (Argument-F.ThisReference at spelling) = unbuilt at

  -- the body of an `if` or a loop
  abbrev pub body_step : Open Body-F → Doing Step
  body_step (Body-F.«Body::Block» block) = do ys ← scoped block.steps; pure (block_of block.at ys)
  body_step (Body-F.Statement statement) = scoped (statement.typed false)

  abbrev pub unary : UnaryOperator → ℕ → Reading → Reading
  unary sign.Minus at operand = plain at (operand.negated at)
  unary operator at operand = plain at (do x ← operand.value; by_rule (unary_of operator at x))

  abbrev pub expression_step : Open Expr-F → Reading
  expression_step (Expr-F.Assign operator at target value) = plain target.first (do p ← target.place (read_at at operator); x ← value.value; by_rule (assign_of at operator p x))
  expression_step (Expr-F.Conditional at condition left right) = plain condition.first (do z ← condition.value; x ← left.value; y ← right.value; by_rule (choice_of at z x y))
  expression_step (Expr-F.Elvis at left right) = plain left.first (do x ← left.value; y ← right.value; by_rule (elvis_of at x y))
  expression_step (Expr-F.Binary operator at left right) = plain left.first (do x ← left.value; y ← right.value; by_rule (binary_of operator at x y))
  expression_step (Expr-F.Instanceof at operand of) = plain operand.first (do x ← operand.value; t ← by_rule (type_of of); by_rule (instance_of at x t))
  expression_step (Expr-F.Unary operator at operand) = unary operator at operand
  expression_step (Expr-F.Prefix step at target) = plain at (do p ← target.place (Some at); by_rule (step_of at step g.New p))
  expression_step (Expr-F.Postfix step at target) = plain at (do p ← target.place (Some at); by_rule (step_of at step g.Old p))
  expression_step (Expr-F.Cast at of operand) = plain at (do to ← by_rule (type_of of); x ← operand.value; by_rule (asked at to x))
  expression_step (Expr-F.Bracketed at inner) = plain at (do x ← inner.value; pure (bracketed at x))
  expression_step (Expr-F.Integer at spelling) = record {
    first = at;
    names = None;
    value = by_rule (integer at spelling);
    negated = (λ minus. by_rule (negated_integer minus at spelling));
    place = fixed (by_rule (integer at spelling));
  }
  expression_step (Expr-F.Text at spelling) = plain at (by_rule (text at spelling))
  expression_step (Expr-F.Constant constant_ at) = plain at (by_rule (constant at constant_))
  expression_step (Expr-F.List at items) = plain at (do xs ← parts (map value_of items); by_rule (list_of at xs))
  expression_step (Expr-F.Map at pairs) = plain at (do xs ← entries pairs; by_rule (map_of at xs))
  expression_step (Expr-F.Name at spelling) = record {
    first = at;
    names = None;
    value = looking (local at spelling);
    negated = (λ minus. (do x ← looking (local at spelling); by_rule (unary_of sign.Minus minus x)));
    place = (λ by. looking (written at spelling));
  }
  expression_step (Expr-F.Call at spelling given) = plain at (call at spelling given)
  expression_step (Expr-F.New at of given) = plain at (do t ← by_rule (type_of of); xs ← parts given; by_rule (new_of allow at t xs))
  expression_step (Expr-F.NewArray at of sizes) = plain at (do t ← by_rule (type_of of); xs ← parts (map value_of sizes); by_rule (array_of at t xs))
  expression_step (Expr-F.NewItems at of items) = plain at (do t ← by_rule (type_of of); xs ← parts (map value_of items); by_rule (array_with at t xs))
  expression_step (Expr-F.Type of) = record (plain of.at (do t ← by_rule (type_of of); unbuilt of.at)) { names = Some (by_rule (type_of of)) }
  expression_step (Expr-F.Member access at receiver spelling) = record (plain receiver.first (read access at receiver receiver.names spelling)) { place = member_place access at receiver receiver.names spelling (read access at receiver receiver.names spelling) }
  expression_step (Expr-F.Method access at receiver spelling given) = plain receiver.first (method access at receiver receiver.names spelling given)
  expression_step (Expr-F.Element access at receiver digits) = record (plain receiver.first (element access at receiver receiver.names digits)) { place = element_place access at receiver receiver.names digits (element access at receiver receiver.names digits) }
  expression_step (Expr-F.Index at receiver index) = record (plain receiver.first (do x ← receiver.value; y ← index.value; by_rule (index_of allow at x y))) { place = λ by. (do x ← receiver.value; y ← index.value; by_rule (index_location allow by at x y)) }

  abbrev pub first_step : Open First-F → Doing Step
  first_step (First-F.«First::Declare» declaration) = declaration.typed false
  first_step (First-F.«First::Expression» value) = loop_step value

  abbrev pub lambda_step : Open LambdaBody-F → Seen
  lambda_step (LambdaBody-F.«LambdaBody::Block» block) = seen block.steps
  lambda_step (LambdaBody-F.«LambdaBody::Expression» value) = seen value.value

  abbrev pub statement_step : Open Statement-F → Doer
  statement_step (Statement-F.If at condition chosen otherwise) = record { at = at; typed = λ last. (do x ← condition.value; x ← by_rule (test x); y ← chosen; n ← perhaps otherwise; pure (if_of at x y n)) }
  statement_step (Statement-F.While at condition body) = record { at = at; typed = λ last. (do c ← loop_condition (Some condition); y ← looping (perhaps body); pure (loop_of at None c None y)) }
  statement_step (Statement-F.For at first condition update body) = record {
    at = at;
    typed = λ last.
        scoped (do f ← perhaps first; c ← loop_condition condition; u ← loop_update update; y ← looping (perhaps body); pure (loop_of at f c u y));
  }
  statement_step (Statement-F.ForEach at of name over body) = record { at = at; typed = λ last. for_each at (by_rule (type_of of)) name over body }
  statement_step (Statement-F.ForIn at name over body) = record { at = at; typed = λ last. for_each at (pure t.Def) name over body }
  statement_step (Statement-F.Try at block catches) = record { at = at; typed = λ last. (do ys ← scoped block.steps; cs ← handlers catches; pure (try_of at (block_of block.at ys) cs)) }
  statement_step (Statement-F.Do at block condition) = record {
    at = at;
    typed = λ last.
        (do ys ← looping (scoped block.steps); c ← loop_condition (Some condition); pure (do_of at (block_of block.at ys) c));
  }
  statement_step (Statement-F.«Statement::Declare» declaration) = record { at = declaration.at; typed = λ last. declaration.typed false }
  statement_step (Statement-F.Continue at) = record { at = at; typed = λ last. looking (continue_of at) }
  statement_step (Statement-F.Break at) = record { at = at; typed = λ last. looking (break_of at) }
  statement_step (Statement-F.Return at value) = record { at = at; typed = λ last. returned at value }
  statement_step (Statement-F.Throw at value) = record { at = at; typed = λ last. (do x ← value.value; by_rule (throw_of at x)) }
  statement_step (Statement-F.«Statement::Expression» at value) = record { at = at; typed = λ last. (do x ← value.value; looking (expression_of at last x)) }

  abbrev pub block_step : Open Block-F → Braces
  block_step block = record { at = block.at; steps = statements false false block.statements }

  -- the type of a catch, and then its name, which is in sight in its block
  abbrev pub catch_step : Open Catch-F → Doing Caught
  catch_step handler =
      do class ← by_rule (caught_class handler.of); scoped (do changing (declared handler.name.at handler.name.spelling (t.Class class)); ys ← handler.block.steps; pure (caught handler.at class handler.name.spelling (block_of handler.block.at ys)))

  abbrev pub declaration_step : Open Declaration-F → Doer
  declaration_step d = record { at = d.of.at; typed = λ last. (do of ← by_rule (type_of d.of); vs ← variables of d.variables; pure (declaration_of d.of.at vs)) }

  abbrev pub entry_step : Open Entry-F → Doing (Part × Part)
  entry_step entry = do x ← entry.key.value; y ← entry.value.value; pure (x, y)

  abbrev pub variable_step : Open Variable-F → Ty → Doing TypedVariable
  variable_step v of = do x ← initial of v.value; stating (variable_of v.name of x)

  abbrev pub reading : Expr → Reading
  reading = fold-Expr (Doing Part) (Doing Step) Reading (Doing Step) Seen Doer Braces (Doing Caught) Doer (Doing (Part × Part)) (Ty → Doing TypedVariable)
      argument_step body_step expression_step first_step lambda_step statement_step block_step catch_step declaration_step entry_step variable_step

  abbrev pub argument : Argument → Doing Part
  argument = fold-Argument (Doing Part) (Doing Step) Reading (Doing Step) Seen Doer Braces (Doing Caught) Doer (Doing (Part × Part)) (Ty → Doing TypedVariable)
      argument_step body_step expression_step first_step lambda_step statement_step block_step catch_step declaration_step entry_step variable_step

  abbrev pub body : Body → Doing Step
  body = fold-Body (Doing Part) (Doing Step) Reading (Doing Step) Seen Doer Braces (Doing Caught) Doer (Doing (Part × Part)) (Ty → Doing TypedVariable)
      argument_step body_step expression_step first_step lambda_step statement_step block_step catch_step declaration_step entry_step variable_step

  abbrev pub doer : Statement → Doer
  doer = fold-Statement (Doing Part) (Doing Step) Reading (Doing Step) Seen Doer Braces (Doing Caught) Doer (Doing (Part × Part)) (Ty → Doing TypedVariable)
      argument_step body_step expression_step first_step lambda_step statement_step block_step catch_step declaration_step entry_step variable_step

  abbrev pub braces : Block → Braces
  braces = fold-Block (Doing Part) (Doing Step) Reading (Doing Step) Seen Doer Braces (Doing Caught) Doer (Doing (Part × Part)) (Ty → Doing TypedVariable)
      argument_step body_step expression_step first_step lambda_step statement_step block_step catch_step declaration_step entry_step variable_step

-- a body from its first step
abbrev pub ran : Doing (List Step) → State → Answer
ran m s = m s (λ ys t. Ok (ys, t))

abbrev pub function_of : AllowList → List Header → Function → Header → Out TypedFunction
function_of allow hs f h = bind (ran (braces allow hs f.body).steps (function_start h)) (λ whole. finished f h whole.0)

-- the bodies, each with its header
abbrev pub functions : AllowList → List Header → List Function → List Header → Out (List TypedFunction)
functions allow hs (f ∷ fs) (h ∷ rest) = bind (function_of allow hs f h) (λ x. bind (functions allow hs fs rest) (λ xs. Ok (x ∷ xs)))
functions allow hs _ _ = Ok []

abbrev pub main_of : AllowList → ContextTypes → List Header → List Statement → Out TypedFunction
main_of allow context hs all = bind (ran (statements true false (map (doer allow hs) all)) (main_start context)) (λ whole. Ok (main context whole.0))

abbrev pub program : List TypedFunction → TypedFunction → Program
program functions main = record { functions = functions; main = main }

-- The program of a script under a list of what is allowed, or the first rule that it breaks: headers in their order, then bodies, then the
-- main script.
abbrev pub typing_of : AllowList → ContextTypes → Tree → Out Program
typing_of allow context tree = bind (headers tree.functions []) (λ hs. bind (functions allow hs tree.functions hs) (λ fs.
    bind (main_of allow context hs tree.statements) (λ m. Ok (program fs m))))
