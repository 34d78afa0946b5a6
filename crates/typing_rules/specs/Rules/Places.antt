-- Names, and what is written to them.
use Rattle.std.specs.Prelude.{ℕ, pos, Bool, true, false, ◌||◌, nat_lt, List, [], Option, Some, None, Ok, slice_get, if◌then◌else◌}
use Rattle.pl_types.specs.declared.ty.Ty.{Ty}
use Rattle.pl_types.specs.declared.ty.Ty.TheVariants as t
use Rattle.pl_types.specs.declared.primitive.Primitive.{Primitive}
use Rattle.pl_types.specs.declared.primitive.Primitive.TheVariants as p
use Rattle.pl_types.specs.declared.conversion.Cast.{Cast}
use Rattle.pl_types.specs.declared.rules.TheConstants.{UNKNOWN_VARIABLE, NOT_ASSIGNABLE, BAD_CAST, BAD_OPERAND, OUT_OF_PROFILE}
use Rattle.pl_types.specs.Casts.{cast_of}
use Rattle.pl_types.specs.Classes.{class_is_below}
use Rattle.pl_tree.specs.declared.operator.BinaryOperator.{BinaryOperator}
use Rattle.pl_tree.specs.declared.operator.BinaryOperator.TheVariants as b
use Rattle.pl_tree.specs.declared.operator.Step.{Step}
use Rattle.pl_tree.specs.declared.operator.Step.TheVariants as step
use Rattle.typed_tree.specs.declared.operation.Gives.{Gives}
use Rattle.typed_tree.specs.declared.operation.Gives.TheVariants as g
use Rattle.typed_tree.specs.declared.operation.Change.{Change}
use Rattle.typed_tree.specs.declared.operation.Constant.TheVariants as k
use Rattle.typed_tree.specs.declared.operation.Operator.{Operator}
use Rattle.typed_tree.specs.declared.operation.Operator.TheVariants as operator
use Rattle.typed_tree.specs.declared.operation.Target.TheVariants as target
use Rattle.typed_tree.specs.declared.typed.Typed.{Typed}
use Rattle.typed_tree.specs.declared.typed.Node.TheVariants as n
use Rattle.typing_rules.specs.declared.part.Part.{Part}
use Rattle.typing_rules.specs.declared.part.Form.TheVariants as f
use Rattle.typing_rules.specs.declared.part.Location.{Location}
use Rattle.typing_rules.specs.declared.part.Place.{Place}
use Rattle.typing_rules.specs.declared.part.Place.TheVariants as place
use Rattle.typing_rules.specs.declared.rules.plans.Plan.{Plan}
use Rattle.typing_rules.specs.declared.scopes.Entry.{Entry}
use Rattle.typing_rules.specs.declared.scopes.Standing.{Standing}
use Rattle.typing_rules.specs.declared.scopes.Standing.TheVariants as standing
use Rattle.typing_rules.specs.declared.state.State.{State}
use Rattle.typing_rules.specs.Outcomes.{Out, refuse, bind}
use Rattle.typing_rules.specs.Scopes.{find}
use Rattle.typing_rules.specs.Rules.Nodes.{typed, part, plain, type_of_part}
use Rattle.typing_rules.specs.Rules.Casts.{cast_to}
use Rattle.typing_rules.specs.Rules.Types.{is_built}
use Rattle.typing_rules.specs.Rules.Operators.{operand, plan_between, relation_between, dynamic_between, type_given, reference}

-- the entry of a name in sight, with its place among the names
abbrev pub entry_if : Option ℕ → List Entry → Option Entry
entry_if None scopes = None
entry_if (Some i) scopes = slice_get scopes i

abbrev pub entry_of : List ℕ → List Entry → Option Entry
entry_of name scopes = entry_if (find name scopes) scopes

abbrev pub local_of : ℕ → Entry → Out Part
local_of at e = if is_built e.of then Ok (plain at (typed at e.of (n.Local e.name))) else refuse OUT_OF_PROFILE at

abbrev pub local_if : Option Entry → ℕ → Out Part
local_if None at = refuse UNKNOWN_VARIABLE at
local_if (Some e) at = local_of at e

-- A name's value. One of a type that is not built is not built.
abbrev pub local : ℕ → List ℕ → State → Out Part
local at name s = local_if (entry_of name s.scopes) at

abbrev pub is_fixed : Standing → Bool
is_fixed standing.Variable = false
is_fixed standing.Fixed = true

-- a variable, which has no parts
abbrev pub variable_at : List ℕ → Ty → Location
variable_at name of = record { target = target.Local name; parts = []; gives = of; takes = of }

abbrev pub written_to : Bool → Entry → Place
written_to true e = place.Fixed
written_to false e = place.Written (variable_at e.name e.of)

abbrev pub written_of : ℕ → Bool → Entry → Out Place
written_of at fixed e = if is_built e.of then Ok (written_to fixed e) else refuse OUT_OF_PROFILE at

abbrev pub written_if : ℕ → ℕ → ℕ → Option Entry → Out Place
written_if at base i None = refuse UNKNOWN_VARIABLE at
written_if at base i (Some e) = written_of at (is_fixed e.standing || nat_lt i base) e

abbrev pub written_at : Option ℕ → ℕ → State → Out Place
written_at None at s = refuse UNKNOWN_VARIABLE at
written_at (Some i) at s = written_if at s.base i (slice_get s.scopes i)

-- A name as what is written to: no variable of the context, and none that was declared around the function value whose body this is.
abbrev pub written : ℕ → List ℕ → State → Out Place
written at name s = written_at (find name s.scopes) at s

-- `=`
abbrev pub set : ℕ → Location → Part → Out Part
set at w x = bind (cast_to w.takes x) (λ y. Ok (part at f.Deed (typed at w.takes (n.Assign w.target w.parts y))))

abbrev pub change : Cast → Operator → Cast → Change
change before operator after = record { before = before; operator = operator; after = after }

abbrev pub change_by : Option Cast → Operator → Option Cast → Option Change
change_by (Some before) operator (Some after) = Some (change before operator after)
change_by _ operator _ = None

-- What is read is cast to the operator's left side, and what comes out to the type that is written.
abbrev pub change_between : Operator → Ty → Ty → Location → Option Change
change_between operator left result w = change_by (cast_of class_is_below w.gives left true) operator (cast_of class_is_below result w.takes true)

abbrev pub change_of : Plan → Location → Option Change
change_of plan w = change_between plan.operator (t.Prim plan.left) (t.Prim plan.result) w

-- an operator on what is read and another value, both references
abbrev pub joining_of : Operator → Location → Option Change
joining_of operator w = change_between operator t.Def (type_given operator) w

-- what a change gives is what was read, or what is written
abbrev pub type_after : Gives → Location → Ty
type_after g.Old w = w.gives
type_after g.New w = w.takes

abbrev pub changed_by : Option Change → ℕ → Location → Typed → Gives → Out Part
changed_by None at w y gives = refuse BAD_CAST at
changed_by (Some change) at w y gives = Ok (part at f.Deed (typed at (type_after gives w) (n.Change w.target w.parts change y gives)))

abbrev pub changed : ℕ → Location → Plan → Typed → Gives → Out Part
changed at w plan y gives = changed_by (change_of plan w) at w y gives

abbrev pub joined_if : Option Operator → ℕ → Location → Part → Gives → Out Part
joined_if None at w x gives = refuse BAD_OPERAND at
joined_if (Some operator) at w x gives = bind (reference x) (λ y. changed_by (joining_of operator w) at w y gives)

abbrev pub compound : Option Plan → BinaryOperator → ℕ → Location → Part → Out Part
compound None operator at w x = joined_if (relation_between operator w.gives (type_of_part x)) at w x g.New
compound (Some plan) operator at w x = bind (operand at plan.right x) (λ y. changed at w plan y g.New)

-- where what is written to is
abbrev pub location_in : Place → Option Location
location_in (place.Written w) = Some w
location_in place.Fixed = None

abbrev pub assigned : Option BinaryOperator → ℕ → Location → Part → Out Part
assigned None at w x = set at w x
assigned (Some operator) at w x = compound (plan_between operator w.gives (type_of_part x)) operator at w x

abbrev pub assign_if : Option Location → ℕ → Option BinaryOperator → Part → Out Part
assign_if None at operator x = refuse NOT_ASSIGNABLE at
assign_if (Some w) at operator x = assigned operator at w x

-- An assignment, plain or with an operator. What is not written to is told before a cast.
abbrev pub assign_of : ℕ → Option BinaryOperator → Place → Part → Out Part
assign_of at operator p x = assign_if (location_in p) at operator x

-- one of a number type
abbrev pub one : ℕ → Primitive → Typed
one at p.Long = typed at (t.Prim p.Long) (n.Constant (k.Long (pos 1)))
one at q = typed at (t.Prim p.Int) (n.Constant (k.Int (pos 1)))

abbrev pub operator_of : Step → BinaryOperator
operator_of step.Increment = b.Add
operator_of step.Decrement = b.Subtract

-- what is counted is a number, or a def, to which an int is added when the script runs
abbrev pub counted : Option Plan → ℕ → Step → Location → Gives → Out Part
counted None at step w gives = joined_if (dynamic_between (operator_of step) w.gives (t.Prim p.Int)) at w (plain at (one at p.Int)) gives
counted (Some plan) at step w gives = changed at w plan (one at plan.right) gives

abbrev pub step_if : Option Location → ℕ → Step → Gives → Out Part
step_if None at step gives = refuse NOT_ASSIGNABLE at
step_if (Some w) at step gives = counted (plan_between (operator_of step) w.gives (t.Prim p.Int)) at step w gives

-- `++` and `--`
abbrev pub step_of : ℕ → Step → Gives → Place → Out Part
step_of at step gives p = step_if (location_in p) at step gives
