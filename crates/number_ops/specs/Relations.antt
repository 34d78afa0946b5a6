-- What is asked of values whose types are found at run time: whether two are equal or one, and whether one is of a type. And what is thrown.
use Rattle.std.specs.Prelude.{◌≡◌, ℕ, ◌==◌, ◌&&◌, Bool, true, false, not, Option, Some, None, List, slice_get}
use Rattle.std.specs.Ordering.{int_eq}
use Rattle.pl_types.specs.declared.primitive.Primitive.{Primitive}
use Rattle.pl_types.specs.declared.ty.Ty.{Ty}
use Rattle.pl_types.specs.declared.ty.Ty.TheVariants as t
use Rattle.object_values.specs.declared.object.Object.{Object}
use Rattle.object_values.specs.declared.object.Object.TheVariants as o
use Rattle.object_values.specs.declared.value.Value.{Value}
use Rattle.object_values.specs.declared.value.Value.TheVariants as v
use Rattle.object_heap.specs.Effects.{Effect, Gives, Throws}
use Rattle.object_heap.specs.Fits.{kinds, has_type, is_primitive}
use Rattle.object_heap.specs.Parts.{asked}
use Rattle.object_heap.specs.Store.{Store}
use Rattle.arithmetic.specs.declared.operator.Num.{Num}
use Rattle.arithmetic.specs.Operators.{as_long}
use Rattle.number_ops.specs.declared.outcome.Outcome.{Outcome}
use Rattle.number_ops.specs.declared.outcome.Outcome.TheVariants as outcome
use Rattle.number_ops.specs.declared.outcome.Raised.TheVariants.{ClassCast}
use Rattle.number_ops.specs.Casts.{cast_at_run_time}
use Rattle.number_ops.specs.Operators.{number_in, is_null}
use Rattle.number_ops.specs.Order.{equals}
use Rattle.number_ops.specs.Outcomes.{effect, null_error}

-- two numbers are equal by their values, whatever their types; all else by deep equality
abbrev pub equal_if : List Object → Value → Value → Option Num → Option Num → Outcome
equal_if objects a b (Some x) (Some y) = outcome.Gives (v.Bool (int_eq (as_long x) (as_long y)))
equal_if objects a b (Some x) None = equals objects a b
equal_if objects a b None y = equals objects a b

-- What `==` comes to of two values. A char counts as a number.
unfoldable pub equal : List Object → Value → Value → Outcome
equal objects a b = equal_if objects a b (number_in a) (number_in b)

-- Whether two values are one: one object, or both null. A value that is neither an object nor null is no other's.
unfoldable pub is_same : Value → Value → Bool
is_same v.Null v.Null = true
is_same (v.Ref a) (v.Ref b) = a == b
is_same a b = false

-- whether a value is an instance of a type, which null is of none
unfoldable pub is_instance : List Object → Value → Ty → Bool
is_instance objects value of = not (is_null value) && has_type (kinds objects) of value

-- ---- what is thrown

abbrev pub no_exception : Store → Effect
no_exception store = effect store (outcome.Throws ClassCast None)

abbrev pub thrown_if : Store → ℕ → Option Object → Effect
thrown_if store id (Some (o.Exc class message)) = Throws id store
thrown_if store id other = no_exception store

-- What `throw` comes to: an exception is thrown as it is, null is NullPointerException, and any other value ClassCastException.
unfoldable pub thrown : Store → Value → Effect
thrown store v.Null = effect store null_error
thrown store (v.Ref id) = thrown_if store id (slice_get store.objects id)
thrown store value = no_exception store

abbrev pub is_exception_object : Object → Bool
is_exception_object (o.Exc class message) = true
is_exception_object object = false

-- whether a value is an exception: it is there already, and nothing is made where it is thrown
abbrev pub is_exception : List Object → Value → Bool
is_exception objects (v.Ref id) = asked is_exception_object false (slice_get objects id)
is_exception objects value = false

-- ---- laws

-- `==` gives a truth value, if anything
abbrev pub EqualityGivesFlags : Type 0
EqualityGivesFlags = (objects : List Object) (a b value : Value) → equal objects a b ≡ outcome.Gives value → (flag : Bool) × (value ≡ v.Bool flag)

-- `==` makes no text
abbrev pub EqualityMakesNothing : Type 0
EqualityMakesNothing = (objects : List Object) (a b : Value) (text : List ℕ) → equal objects a b ≡ outcome.Makes text → ⊥

-- a cast to a primitive type gives a value of it, if anything
abbrev pub CastsGivePrimitives : Type 0
CastsGivePrimitives =
    (objects : List Object) (value given : Value) (to : Primitive) (explicit : Bool) → cast_at_run_time objects value (t.Prim to) explicit ≡ outcome.Gives given
    → is_primitive to given ≡ true

-- .. and makes no text
abbrev pub CastsToPrimitivesMakeNothing : Type 0
CastsToPrimitivesMakeNothing =
    (objects : List Object) (value : Value) (to : Primitive) (explicit : Bool) (text : List ℕ) → cast_at_run_time objects value (t.Prim to) explicit ≡ outcome.Makes text → ⊥

-- `throw` gives nothing
abbrev pub ThrowsAlone : Type 0
ThrowsAlone = (store left : Store) (value given : Value) → thrown store value ≡ Gives given left → ⊥
