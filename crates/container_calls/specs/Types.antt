-- What members give, as far as it is of a primitive type.
use Rattle.std.specs.Prelude.{◌≡◌, ℕ, Bool, true, Option, Some, None, List, slice_get}
use Rattle.pl_types.specs.declared.primitive.Primitive.{Primitive}
use Rattle.pl_types.specs.declared.ty.Ty.{Ty, out-Ty}
use Rattle.pl_types.specs.declared.ty.Ty.TheOpen.{Ty-F}
use Rattle.allowlist.specs.declared.member.MemberType.{MemberType}
use Rattle.allowlist.specs.Catalogue.{catalogue}
use Rattle.object_values.specs.declared.value.Value.{Value}
use Rattle.object_heap.specs.Effects.{Effect, Gives, Throws, NoRoom}
use Rattle.object_heap.specs.Fits.{is_primitive}
use Rattle.object_heap.specs.Store.{Store}
use Rattle.container_calls.specs.Members.{is_of_containers, does_container}

-- the primitive type that a type is, if it is one
abbrev pub primitive_in : Ty-F Ty → Option Primitive
primitive_in (Ty-F.Prim primitive) = Some primitive
primitive_in layer = None

abbrev pub primitive_of : Ty → Option Primitive
primitive_of of = primitive_in (out-Ty of)

-- a value is of a primitive type; where there is none, nothing is said of it
abbrev pub suits : Option Primitive → Value → Bool
suits None value = true
suits (Some primitive) value = is_primitive primitive value

abbrev pub EffectGives : Option Primitive → Effect → Type 0
EffectGives wanted (Gives value store) = suits wanted value ≡ true
EffectGives wanted (Throws id store) = Unit {0}
EffectGives wanted NoRoom = Unit {0}

-- Whatever a member of the catalogue is called with, what it gives is of its type: where an argument is of another kind than it asks
-- for, it throws.
abbrev pub MembersGiveTypes : Type 0
MembersGiveTypes = (number : ℕ) (member : MemberType) (arguments : List Value) (store : Store) → is_of_containers number ≡ true → slice_get catalogue number ≡ Some member
    → EffectGives (primitive_of member.result) (does_container store number arguments)
