-- Loops over elements: a `for` that declares an iterator under a name that no script has, and in each turn the variable
-- (Java Language Specification, 14.14.2).
use Rattle.std.specs.Prelude.{ℕ, codes, Bool, true, false, List, [], ◌∷◌, Option, Some, None, is_some, Ok, if◌then◌else◌}
use Rattle.pl_types.specs.declared.classes.TheConstants.{ITERABLE, ITERATOR}
use Rattle.pl_types.specs.declared.rules.TheConstants.{ALREADY_DEFINED, BAD_CAST}
use Rattle.pl_types.specs.declared.ty.Ty.{Ty, out-Ty}
use Rattle.pl_types.specs.declared.ty.Ty.TheOpen.{Ty-F}
use Rattle.pl_types.specs.declared.ty.Ty.TheVariants as t
use Rattle.pl_types.specs.Casts.{cast_of}
use Rattle.pl_types.specs.Classes.{class_is_below}
use Rattle.typed_tree.specs.declared.operation.Operation.TheVariants as o
use Rattle.typed_tree.specs.declared.operation.Operator.TheVariants as operator
use Rattle.typed_tree.specs.declared.typed.Typed.{Typed}
use Rattle.typed_tree.specs.declared.typed.Node.TheVariants as n
use Rattle.typed_tree.specs.declared.statement.StatementNode.TheVariants as node
use Rattle.typed_tree.specs.declared.statement.TypedStatement.{TypedStatement, roll-TypedStatement}
use Rattle.typing_rules.specs.declared.part.Each.{Each}
use Rattle.typing_rules.specs.declared.part.Part.{Part}
use Rattle.typing_rules.specs.declared.part.Step.{Step}
use Rattle.typing_rules.specs.declared.state.State.{State}
use Rattle.typing_rules.specs.Outcomes.{Out, refuse, bind}
use Rattle.typing_rules.specs.Scopes.{find}
use Rattle.typing_rules.specs.Rules.Casts.{cast_at}
use Rattle.typing_rules.specs.Rules.Nodes.{boolean, typed, applied, plain, type_of_part}
use Rattle.typing_rules.specs.Rules.Statements.{step}

-- the name of the iterator
abbrev pub iterator_name : List ℕ
iterator_name = codes "#iterator"

abbrev pub iterator_type : Ty
iterator_type = t.Class ITERATOR

abbrev pub iterator : ℕ → Typed
iterator at = typed at iterator_type (n.Local iterator_name)

-- the iterator over a value
abbrev pub iterated : ℕ → Typed → Typed
iterated at x = applied at iterator_type (o.Operator operator.Iterate) (x ∷ [])

abbrev pub has_next : ℕ → Typed
has_next at = applied at boolean (o.Operator operator.HasNext) (iterator at ∷ [])

abbrev pub next : ℕ → Typed
next at = applied at t.Def (o.Operator operator.Next) (iterator at ∷ [])

-- the type of the elements: an array's own, and else def
abbrev pub element_layer : Ty-F Ty → Option Ty
element_layer (Ty-F.Array of) = Some of
element_layer (Ty-F.Class c) = if class_is_below c ITERABLE then Some t.Def else None
element_layer Ty-F.Def = Some t.Def
element_layer _ = None

abbrev pub goes_to : Option Ty → Ty → Bool
goes_to None to = false
goes_to (Some of) to = is_some (cast_of class_is_below of to false)

-- a declaration of one variable
abbrev pub declares : ℕ → List ℕ → Ty → Typed → Step
declares at name of x = step false false at (node.Declare (record { at = at; name = name; of = of; value = Some x } ∷ []))

abbrev pub each : ℕ → List ℕ → Ty → Typed → Typed → Each
each at name to x value = record { first = declares at iterator_name iterator_type (iterated at x); element = declares at name to value }

-- the next element, which is a def, is cast when the script runs
abbrev pub taken : ℕ → Ty → Out Typed
taken at to = cast_at at to (plain at (next at)) false

-- The elements of a value go to the type of the variable.
abbrev pub each_over : ℕ → List ℕ → Ty → Part → Out Each
each_over at name to x =
    if goes_to (element_layer (out-Ty (type_of_part x))) to then bind (taken at to) (λ value. Ok (each at name to x.typed value))
    else refuse BAD_CAST x.at

-- where the name of the iterator is in sight; no script has it
abbrev pub each_if : Option ℕ → ℕ → List ℕ → Ty → Part → Out Each
each_if (Some i) at name to x = refuse ALREADY_DEFINED at
each_if None at name to x = each_over at name to x

-- how a loop over the elements of a value begins
abbrev pub each_of : ℕ → List ℕ → Ty → Part → State → Out Each
each_of at name to x s = each_if (find iterator_name s.scopes) at name to x

abbrev pub turn : ℕ → Step → Step → TypedStatement
turn at element body = roll-TypedStatement (record { at = at; node = node.Block (element.statement ∷ body.statement ∷ []) })

-- a loop over elements, with its body
abbrev pub each_loop : ℕ → Step → Step → Step → Step
each_loop at first element body = step false false at (node.Loop (Some first.statement) (Some (has_next at)) None (Some (turn at element body)))
