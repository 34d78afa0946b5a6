-- Laws over the definitions.
use Rattle.std.specs.Prelude.{◌≡◌, ℕ, Bool, true, false, not, Option, Some, None, List, length, slice_get, is_some, nat_le, ◌&&◌, ◌||◌}
use Rattle.pl_types.specs.Host.{HostMeaning}
use Rattle.pl_types.specs.declared.classes.TheConstants.{STRING_BUILDER, EXCEPTION, STRING_INDEX_OUT_OF_BOUNDS_EXCEPTION}
use Rattle.allowlist.specs.declared.member.MemberType.{MemberType}
use Rattle.allowlist.specs.Allow.{is_in_prelude}
use Rattle.allowlist.specs.Catalogue.{catalogue}
use Rattle.object_values.specs.declared.object.Object.{Object}
use Rattle.object_values.specs.declared.value.Value.{Value}
use Rattle.object_heap.specs.Effects.{Effect}
use Rattle.object_heap.specs.Fits.{Rules, Fits, AllFit, EffectFits}
use Rattle.object_heap.specs.Store.{Store}
use Rattle.container_calls.specs.Laws.{EffectLeaves, is_container_class}
use Rattle.member_calls.specs.Members.{is_built, first_of_host, is_of_host, does}

-- what members do is said of those that are built and of the functions of the host, and of no others
abbrev pub BuiltAct : Type 0
BuiltAct = (host : HostMeaning) (number : ℕ) (arguments : List Value) (store : Store) → is_some (does host number arguments store) ≡ (is_built number || is_of_host number)

-- what comes of a member fits
abbrev pub ActFits : Rules → Option Effect → Type 0
ActFits rules None = Unit {0}
ActFits rules (Some effect) = EffectFits rules effect

-- what members keep: where the heap and the arguments fit a program or a code, the heap fits it afterwards
abbrev pub MembersKeepFit : Type 0
MembersKeepFit = (host : HostMeaning) (rules : Rules) (store : Store) (number : ℕ) (arguments : List Value) → Fits rules store.objects → AllFit (length store.objects) arguments
    → ActFits rules (does host number arguments store)

-- the objects are still there, each of its kind, and there may be more
abbrev pub ActLeaves : List Object → Option Effect → Type 0
ActLeaves objects None = Unit {0}
ActLeaves objects (Some effect) = EffectLeaves objects effect

-- a member takes no object away and changes the kind of none: values that fit the heap go on fitting it
abbrev pub MembersLeaveObjects : Type 0
MembersLeaveObjects = (host : HostMeaning) (number : ℕ) (arguments : List Value) (store : Store) → ActLeaves store.objects (does host number arguments store)

-- the classes of which no member is missing but the prelude's: those up to StringBuilder, exceptions, and those of containers of which
-- that is so
abbrev pub is_whole_class : ℕ → Bool
is_whole_class class = (nat_le class STRING_BUILDER || (nat_le EXCEPTION class && nat_le class STRING_INDEX_OUT_OF_BOUNDS_EXCEPTION)) || is_container_class class

-- a member of the catalogue whose class is one of these is built where the prelude does not have it
abbrev pub BuiltOwners : Type 0
BuiltOwners = (number : ℕ) (member : MemberType) → slice_get catalogue number ≡ Some member → is_whole_class member.owner ≡ true → is_built number ≡ not (is_in_prelude member.origin)

-- no member of the prelude is built, of whatever class
abbrev pub BuiltAlone : Type 0
BuiltAlone = (number : ℕ) (member : MemberType) → slice_get catalogue number ≡ Some member → is_built number ≡ true → is_in_prelude member.origin ≡ false

-- a member that is built stands in the catalogue
abbrev pub BuiltStand : Type 0
BuiltStand = (number : ℕ) → is_built number ≡ true → is_some (slice_get catalogue number) ≡ true

-- the functions of the host stand right behind the catalogue's members
abbrev pub HostStands : Type 0
HostStands = length catalogue ≡ first_of_host
