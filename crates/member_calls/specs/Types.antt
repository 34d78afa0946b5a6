-- What members give, as far as it is of a primitive type.
use Rattle.std.specs.Prelude.{◌≡◌, ℕ, Option, Some, None, List, slice_get}
use Rattle.pl_types.specs.Host.{HostMeaning}
use Rattle.pl_types.specs.declared.primitive.Primitive.{Primitive}
use Rattle.allowlist.specs.declared.member.MemberType.{MemberType}
use Rattle.allowlist.specs.Catalogue.{catalogue}
use Rattle.object_values.specs.declared.value.Value.{Value}
use Rattle.object_heap.specs.Effects.{Effect}
use Rattle.object_heap.specs.Store.{Store}
use Rattle.container_calls.specs.Types.{primitive_of, EffectGives}
use Rattle.member_calls.specs.Members.{does}

-- what comes of a member gives a value of a primitive type, where there is one
abbrev pub ActGives : Option Primitive → Option Effect → Type 0
ActGives wanted None = Unit {0}
ActGives wanted (Some effect) = EffectGives wanted effect

-- Whatever a member of the catalogue is called with, what it gives is of its type: where an argument is of another kind than it asks for,
-- it throws.
abbrev pub MembersGiveTypes : Type 0
MembersGiveTypes = (host : HostMeaning) (number : ℕ) (member : MemberType) (arguments : List Value) (store : Store) → slice_get catalogue number ≡ Some member
    → ActGives (primitive_of member.result) (does host number arguments store)
