-- Laws over the definitions.
use Rattle.std.specs.Prelude.{◌≡◌, ℕ, Bool, true, false, Some, List, [], ◌∷◌, length, slice_get, option_map, is_some, nat_le, not, ◌==◌, ◌&&◌, ◌||◌, codes}
use Rattle.pl_types.specs.declared.classes.TheConstants.{ITERABLE, COLLECTIONS, SCRIPT_DOC_VALUES, STRING}
use Rattle.allowlist.specs.declared.member.MemberType.{MemberType}
use Rattle.allowlist.specs.Allow.{is_in_prelude}
use Rattle.allowlist.specs.Catalogue.{catalogue}
use Rattle.api_iter.specs.declared.joining.TheConstants.{STRING_JOIN}
use Rattle.object_values.specs.declared.object.Object.{Object}
use Rattle.object_values.specs.declared.value.Value.{Value}
use Rattle.object_heap.specs.Effects.{Effect, Gives, Throws, NoRoom}
use Rattle.object_heap.specs.Fits.{kinds, Rules, Fits, AllFit, EffectFits}
use Rattle.object_heap.specs.Objects.{Kind, may_become, renewed_by}
use Rattle.object_heap.specs.Store.{Store, with_change}
use Rattle.container_calls.specs.Members.{is_of_containers, does_container}

-- what members keep: where the heap and the arguments fit a program or a code, the heap fits it afterwards
abbrev pub MembersKeepFit : Type 0
MembersKeepFit = (rules : Rules) (store : Store) (number : ℕ) (arguments : List Value) → Fits rules store.objects → AllFit (length store.objects) arguments
    → EffectFits rules (does_container store number arguments)

-- Each of these kinds is still there, or one that it may become, and there may be more: a function value without an interface may have
-- taken one in its place, once, and nothing else changes its kind.
abbrev pub StayThere : List Kind → List Kind → Type 0
StayThere [] after = Unit {0}
StayThere (kind ∷ ks) [] = ⊥
StayThere (kind ∷ ks) (now ∷ after) = (may_become kind now ≡ true) × StayThere ks after

-- the objects are still there, each of its kind or, if it is a function value, with an interface that it has taken, and there may be more
abbrev pub StillThere : List Object → List Object → Type 0
StillThere before after = StayThere (kinds before) (kinds after)

abbrev pub EffectLeaves : List Object → Effect → Type 0
EffectLeaves objects (Gives value store) = StillThere objects store.objects
EffectLeaves objects (Throws id store) = StillThere objects store.objects
EffectLeaves objects NoRoom = Unit {0}

-- a member takes no object away and changes no kind but as it may: values that fit the heap go on fitting it
abbrev pub MembersLeaveObjects : Type 0
MembersLeaveObjects = (number : ℕ) (arguments : List Value) (store : Store) → EffectLeaves store.objects (does_container store number arguments)

-- and so does the renewal of an object, of whatever kind: a function value that takes an interface is there afterwards
abbrev pub RenewalsLeaveObjects : Type 0
RenewalsLeaveObjects = (objects : List Object) (id : ℕ) (object : Object) → StillThere objects (with_change objects id (renewed_by object))

-- the classes of containers: Iterable, Collection, those of lists, sets, maps, entries and iterators, Collections, and ScriptDocValues
abbrev pub is_container_class : ℕ → Bool
is_container_class class = (nat_le ITERABLE class && nat_le class COLLECTIONS) || (class == SCRIPT_DOC_VALUES)

-- a member of the catalogue whose class is one of these is built where the prelude does not have it
abbrev pub BuiltOwners : Type 0
BuiltOwners = (number : ℕ) (member : MemberType) → slice_get catalogue number ≡ Some member → is_container_class member.owner ≡ true → is_of_containers number ≡ not (is_in_prelude member.origin)

-- no member of the prelude is built, of whatever class
abbrev pub BuiltAlone : Type 0
BuiltAlone = (number : ℕ) (member : MemberType) → slice_get catalogue number ≡ Some member → is_of_containers number ≡ true → is_in_prelude member.origin ≡ false

-- a member that is built stands in the catalogue
abbrev pub BuiltStand : Type 0
BuiltStand = (number : ℕ) → is_of_containers number ≡ true → is_some (slice_get catalogue number) ≡ true

-- the class, the name and how many parameters a member of the catalogue has
abbrev pub heading : MemberType → ℕ × (List ℕ × ℕ)
heading member = (member.owner, (member.name, length member.params))

-- the one member whose number a definition takes from the code is the one that is meant: `join` of a String, of two arguments
abbrev pub JoinIsNamed : Type 0
JoinIsNamed = option_map heading (slice_get catalogue STRING_JOIN) ≡ Some (STRING, (codes "join", 2))
