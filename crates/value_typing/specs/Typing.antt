-- Which values are of a type in a store: a reference is of a class where its object's class is that one or below it, and of an array type
-- where its object is such an array.
use Rattle.std.specs.Prelude.{◌≡◌, ℕ, ◌&&◌, Bool, true, false, not, Option, Some, None, List, [], ◌∷◌}
use Rattle.pl_types.specs.declared.ty.Ty.{Ty, out-Ty}
use Rattle.pl_types.specs.declared.ty.Ty.TheVariants as ty
use Rattle.pl_types.specs.declared.ty.Ty.TheOpen.{Ty-F}
use Rattle.allowlist.specs.declared.member.MemberKind.{MemberKind}
use Rattle.allowlist.specs.declared.member.MemberKind.TheVariants as kind
use Rattle.allowlist.specs.declared.member.MemberType.{MemberType}
use Rattle.object_values.specs.declared.object.Object.{Object}
use Rattle.object_values.specs.declared.value.Value.{Value}
use Rattle.object_heap.specs.Effects.{Effect, Gives, Throws, NoRoom}
use Rattle.object_heap.specs.Fits.{kinds, has_layer, ThrownFits}
use Rattle.object_heap.specs.Objects.{Kind}
use Rattle.number_ops.specs.declared.outcome.Outcome.{Outcome as Told}
use Rattle.number_ops.specs.declared.outcome.Outcome.TheVariants as told
use Rattle.number_ops.specs.declared.outcome.Raised.TheVariants.{ClassCast}
use Rattle.number_ops.specs.Operators.{is_null}
use Rattle.run_fit.specs.World.{Outcome, Given, Raised, Full}

-- What gives nothing may give any value, and of the type of `null` is null alone.
abbrev pub is_typed_layer : List Kind → Ty-F Ty → Value → Bool
is_typed_layer ks Ty-F.Void value = true
is_typed_layer ks Ty-F.Null value = is_null value
is_typed_layer ks layer value = has_layer ks layer value

abbrev pub is_typed : List Object → Ty → Value → Bool
is_typed objects of value = is_typed_layer (kinds objects) (out-Ty of) value

-- a value of each type of a list
abbrev pub are_typed : List Object → List Ty → List Value → Bool
are_typed objects [] [] = true
are_typed objects (of ∷ ofs) (value ∷ values) = is_typed objects of value && are_typed objects ofs values
are_typed objects ofs values = false

-- A member takes values: a receiver of the class that has the member, which is not null, and then arguments of the types of its parameters.
abbrev pub takes_typed_by : MemberKind → ℕ → List Object → List Ty → List Value → Bool
takes_typed_by kind.Instance owner objects params (receiver ∷ values) = not (is_null receiver) && (is_typed objects (ty.Class owner) receiver && are_typed objects params values)
takes_typed_by kind.Instance owner objects params [] = false
takes_typed_by kind.Static owner objects params values = are_typed objects params values
takes_typed_by kind.Constructor owner objects params values = are_typed objects params values
takes_typed_by kind.Field owner objects params values = are_typed objects params values

abbrev pub takes_typed : List Object → MemberType → List Value → Bool
takes_typed objects m values = takes_typed_by m.kind m.owner objects m.params values

-- what a value of another type comes to where one of a type is asked for
abbrev pub class_error : Told
class_error = told.Throws ClassCast None

-- what an operation gives is of a type in the store that it leaves
abbrev pub OutcomeTyped : Ty → Outcome Value → Type 0
OutcomeTyped of (Given value w) = is_typed w.store.objects of value ≡ true
OutcomeTyped of (Raised id w) = Unit {0}
OutcomeTyped of Full = Unit {0}

-- what comes of a member: a value of a type in the store that it leaves, or an exception that is there
abbrev pub EffectIsOf : Ty → Effect → Type 0
EffectIsOf of (Gives value store) = is_typed store.objects of value ≡ true
EffectIsOf of (Throws id store) = ThrownFits store.objects id
EffectIsOf of NoRoom = Unit {0}

-- of a member that is not built nothing comes
abbrev pub ActIsOf : Ty → Option Effect → Type 0
ActIsOf of None = Unit {0}
ActIsOf of (Some effect) = EffectIsOf of effect
