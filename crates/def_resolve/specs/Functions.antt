-- What function values call, and which interfaces they take.
use Rattle.std.specs.Prelude.{ℕ, suc, zero, ◌≡◌, ◌==◌, ◌&&◌, ◌+◌, Bool, true, false, Option, Some, None, List, [], is_some, length, option_map, if◌then◌else◌}
use Rattle.pl_types.specs.declared.ty.Ty.{Ty, out-Ty}
use Rattle.pl_types.specs.declared.ty.Ty.TheOpen.{Ty-F}
use Rattle.allowlist.specs.declared.member.MemberKind.{MemberKind}
use Rattle.allowlist.specs.declared.member.MemberKind.TheVariants as kind
use Rattle.allowlist.specs.Allow.{AllowList, member_of, iface_method_of}
use Rattle.allowlist.specs.Index.{member_at, member_in}
use Rattle.object_values.specs.declared.object.Object.{Object}
use Rattle.object_values.specs.declared.object.Object.TheVariants as o
use Rattle.object_values.specs.declared.object.Target.{Target}
use Rattle.object_values.specs.declared.object.Target.TheVariants as t
use Rattle.def_resolve.specs.declared.function.Reference.{Reference}
use Rattle.def_resolve.specs.declared.function.Reference.TheVariants.{Static, Instance}
use Rattle.def_resolve.specs.Resolution.{IsListed, instance_member}

-- ---- what `T::m` and `T::new` mean for a method with so many parameters

abbrev pub is_static : MemberKind → Bool
is_static kind.Static = true
is_static kind = false

abbrev pub is_constructor : MemberKind → Bool
is_constructor kind.Constructor = true
is_constructor kind = false

abbrev pub static_in : AllowList → Option ℕ → Option ℕ
static_in allow None = None
static_in allow (Some number) = if is_static (member_in allow number).kind then Some number else None

-- the instance member with one parameter less, since the first argument is its receiver
abbrev pub instance_behind : AllowList → ℕ → List ℕ → ℕ → Option Reference
instance_behind allow class name zero = None
instance_behind allow class name (suc others) = option_map Instance (instance_member allow class name others)

abbrev pub static_or : Option ℕ → Option Reference → Option Reference
static_or None reference = reference
static_or (Some number) reference = Some (Static number)

-- `T::m`: what the class has with this name and as many parameters, if that is static, else the instance member of one less.
unfoldable pub reference_of : AllowList → ℕ → List ℕ → ℕ → Option Reference
reference_of allow class name arity = static_or (static_in allow (member_of allow class name arity)) (instance_behind allow class name arity)

abbrev pub constructor_in : AllowList → ℕ → Option ℕ → Option ℕ
constructor_in allow class None = None
constructor_in allow class (Some number) =
    if (member_in allow number).owner == class && is_constructor (member_in allow number).kind then Some number else None

-- `T::new` of a class: its own allowed constructor, which is the member without a name.
unfoldable pub constructor_of : AllowList → ℕ → ℕ → Option ℕ
constructor_of allow class arity = constructor_in allow class (member_of allow class [] arity)

-- whether `T::new` means something: of an array type it makes an array of the length that is its one argument
abbrev pub layer_makes : AllowList → ℕ → Ty-F Ty → Bool
layer_makes allow arity (Ty-F.Class class) = is_some (constructor_of allow class arity)
layer_makes allow arity (Ty-F.Array elem) = arity == 1
layer_makes allow arity layer = false

abbrev pub makes : AllowList → ℕ → Ty → Bool
makes allow arity made = layer_makes allow arity (out-Ty made)

-- ---- which interfaces a function value takes

-- A lambda takes an interface whose method has the parameters that follow what it captured, a reference one for whose method it
-- means something, and what is gone takes every interface.
abbrev pub target_fits : AllowList → ℕ → ℕ → ℕ → Target → Bool
target_fits allow captured params arity (t.Lambda owner number) = params == captured + arity
target_fits allow captured params arity (t.Member class name) = is_some (reference_of allow class name arity)
target_fits allow captured params arity (t.New made) = makes allow arity made
target_fits allow captured params arity t.Gone = true

-- an object that is no function value takes none
abbrev pub object_fits : AllowList → Object → ℕ → ℕ → Bool
object_fits allow (o.Fun iface target captures) params arity = target_fits allow (length captures) params arity target
object_fits allow object params arity = false

-- a class that is no functional interface has no method
abbrev pub method_fits : AllowList → Object → ℕ → Option ℕ → Bool
method_fits allow object params None = false
method_fits allow object params (Some method) = object_fits allow object params (length (member_at method).params)

-- Whether a function value takes an interface. Of a lambda the number of its parameters is told, those that it captured among
-- them; of all else that number is not looked at. Which interface the value has already does not count.
abbrev pub fits : AllowList → Object → ℕ → ℕ → Bool
fits allow object params iface = method_fits allow object params (iface_method_of iface)

-- ---- nothing but what the list allows is found

abbrev pub ReferenceConfined : AllowList → Option Reference → Type 0
ReferenceConfined allow None = Unit {0}
ReferenceConfined allow (Some (Static number)) = IsListed allow kind.Static number
ReferenceConfined allow (Some (Instance number)) = IsListed allow kind.Instance number

abbrev pub ConstructorConfined : AllowList → ℕ → Option ℕ → Type 0
ConstructorConfined allow class None = Unit {0}
ConstructorConfined allow class (Some number) = IsListed allow kind.Constructor number × ((member_in allow number).owner ≡ class)
