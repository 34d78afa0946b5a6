-- Which member a call means whose receiver's class is found when it runs.
use Rattle.std.specs.Prelude.{◌≡◌, ℕ, Bool, true, false, Option, Some, None, List, length, slice_get, option_map, if◌then◌else◌}
use Rattle.pl_types.specs.declared.classes.TheConstants.{BYTE, SHORT, INTEGER, LONG, CHARACTER, BOOLEAN, STRING}
use Rattle.pl_types.specs.Classes.{class_is_below}
use Rattle.allowlist.specs.declared.member.MemberKind.{MemberKind}
use Rattle.allowlist.specs.declared.member.MemberKind.TheVariants.{Instance}
use Rattle.allowlist.specs.Allow.{AllowList, flag, has_name, member_of, iface_method_of}
use Rattle.allowlist.specs.Index.{member_at, member_in}
use Rattle.object_values.specs.declared.object.Object.{Object}
use Rattle.object_values.specs.declared.object.Object.TheVariants as o
use Rattle.object_values.specs.declared.value.Value.{Value}
use Rattle.object_values.specs.declared.value.Value.TheVariants as v
use Rattle.object_heap.specs.Fits.{class_of_kind}
use Rattle.object_heap.specs.Objects.{kind_of}
use Rattle.object_heap.specs.Parts.{asked}
use Rattle.def_resolve.specs.declared.callee.Callee.{Callee}
use Rattle.def_resolve.specs.declared.callee.Callee.TheVariants.{Member, Iface}

-- ---- the class of a value

abbrev pub class_of_object : Object → Option ℕ
class_of_object object = class_of_kind (kind_of object)

-- A box is of its class, a text of String, and an object of its own: a view of keys or of entries is a Set, a view of values a
-- Collection, and a function value is of the interface that it has taken.
abbrev pub class_of : List Object → Value → Option ℕ
class_of objects v.Null = None
class_of objects (v.Bool flag) = Some BOOLEAN
class_of objects (v.Byte number) = Some BYTE
class_of objects (v.Short number) = Some SHORT
class_of objects (v.Char unit) = Some CHARACTER
class_of objects (v.Int number) = Some INTEGER
class_of objects (v.Long number) = Some LONG
class_of objects (v.Str text) = Some STRING
class_of objects (v.Ref id) = asked class_of_object None (slice_get objects id)

-- Null has no class, nor has an array, nor a function value that has taken no interface, nor what is not there.
abbrev pub IsClassless : Option Object → Type 0
IsClassless None = Unit {0}
IsClassless (Some (o.Array elem items)) = Unit {0}
IsClassless (Some (o.Fun None target captures)) = Unit {0}
IsClassless (Some object) = ⊥

abbrev pub HasNoClass : List Object → Value → Type 0
HasNoClass objects v.Null = Unit {0}
HasNoClass objects (v.Ref id) = IsClassless (slice_get objects id)
HasNoClass objects value = ⊥

-- ---- the member that a name means

abbrev pub is_instance : MemberKind → Bool
is_instance Instance = true
is_instance kind = false

-- A call on a value takes an instance member. What is found first decides: behind a static member, a constructor or a field no
-- farther class is looked at, and there is none.
abbrev pub instance_in : AllowList → Option ℕ → Option ℕ
instance_in allow None = None
instance_in allow (Some number) = if is_instance (member_in allow number).kind then Some number else None

-- the instance member of a class with a name and a number of parameters: its own that the list allows, else the first that its
-- parents give, depth first in their order. A class that the list leaves out has no members of its own, and still has its parents.
unfoldable pub instance_member : AllowList → ℕ → List ℕ → ℕ → Option ℕ
instance_member allow class name arity = instance_in allow (member_of allow class name arity)

-- ---- calls

abbrev pub if_called : List ℕ → ℕ → Option ℕ → Option ℕ
if_called name arity None = None
if_called name arity (Some number) = if has_name name arity (member_at number) then Some number else None

-- the one method of a functional interface, where it has this name and this number of parameters
unfoldable pub method_called : ℕ → List ℕ → ℕ → Option ℕ
method_called class name arity = if_called name arity (iface_method_of class)

abbrev pub method_or : Option ℕ → Option ℕ → Option Callee
method_or None found = option_map Member found
method_or (Some method) found = Some (Iface method)

-- What a call means on a value of a class, with a name and a number of arguments. A function value answers the one method of
-- its interface, whether or not the list allows it, since what is called is what the value stands for. All else is found by name
-- and number of arguments alone: neither the static type of the receiver nor the types of the arguments count.
unfoldable pub target_of : AllowList → ℕ → List ℕ → ℕ → Option Callee
target_of allow class name arity = method_or (method_called class name arity) (instance_member allow class name arity)

-- ---- nothing but what the list allows is found

-- a member of this kind that the list allows
pub record IsListed (allow : AllowList) (kind : MemberKind) (number : ℕ) : Type 0 where
  pub allowed : flag allow.members number ≡ true
  pub kind_is : (member_in allow number).kind ≡ kind

-- an instance member that the list allows and a class has, itself or by its parents, with this name and this number of parameters
pub record IsMember (allow : AllowList) (class : ℕ) (name : List ℕ) (arity number : ℕ) : Type 0 where
  pub member : IsListed allow Instance number
  pub called : (member_in allow number).name ≡ name
  pub takes : length (member_in allow number).params ≡ arity
  pub above : class_is_below class (member_in allow number).owner ≡ true

-- the method of the interface that the class is, with this name and this number of parameters
pub record IsMethod (class : ℕ) (name : List ℕ) (arity number : ℕ) : Type 0 where
  pub method : iface_method_of class ≡ Some number
  pub called : has_name name arity (member_at number) ≡ true

abbrev pub IsConfined : AllowList → ℕ → List ℕ → ℕ → Option Callee → Type 0
IsConfined allow class name arity None = Unit {0}
IsConfined allow class name arity (Some (Member number)) = IsMember allow class name arity number
IsConfined allow class name arity (Some (Iface number)) = IsMethod class name arity number
