-- `T::m` and `T::new`, which are looked for when they are called.
use Rattle.std.specs.Prelude.{ℕ, zero, suc, ◌==◌, ◌&&◌, ◌||◌, not, Bool, true, false, List, [], bytes_eq, length, Option, Some, None, Ok, if◌then◌else◌}
use Rattle.std.specs.List.{list_any}
use Rattle.pl_types.specs.declared.ty.Ty.{Ty, out-Ty}
use Rattle.pl_types.specs.declared.ty.Ty.TheOpen.{Ty-F}
use Rattle.pl_types.specs.declared.rules.TheConstants.{UNKNOWN_MEMBER, OUT_OF_PROFILE}
use Rattle.listing_parts.specs.Names.{is_word}
use Rattle.allowlist.specs.declared.member.MemberKind.TheVariants as kind
use Rattle.allowlist.specs.declared.member.MemberType.{MemberType}
use Rattle.allowlist.specs.Allow.{AllowList, member_of, is_in_prelude}
use Rattle.allowlist.specs.Catalogue.{catalogue}
use Rattle.typed_tree.specs.declared.typed.Node.TheVariants as n
use Rattle.typing_rules.specs.declared.part.Part.{Part}
use Rattle.typing_rules.specs.Outcomes.{Out, refuse, bind}
use Rattle.typing_rules.specs.Rules.Nodes.{typed, plain}
use Rattle.typing_functions.specs.declared.wanted.Callee.{Callee}
use Rattle.typing_functions.specs.declared.wanted.Callee.TheVariants as callee
use Rattle.typing_functions.specs.declared.wanted.Wanted.{Wanted}
use Rattle.typing_functions.specs.declared.wanted.Wanted.TheVariants.{Nothing, Any, Interface}
use Rattle.typing_functions.specs.Wanted.{member_if, constructor_if, method_in, taken, value_type}

abbrev pub is_known : Callee → Bool
is_known (callee.Member number) = true
is_known _ = false

-- the instance member with one parameter less, since the first argument is its receiver
abbrev pub instance_behind : AllowList → ℕ → List ℕ → ℕ → Bool
instance_behind allow class name zero = false
instance_behind allow class name (suc others) = is_known (member_if allow kind.Instance (member_of allow class name others))

-- `T::m` where a method with so many parameters is wanted: what the class has with this name and as many, if that is static, else the
-- instance member of one less
abbrev pub refers : AllowList → ℕ → List ℕ → ℕ → Bool
refers allow class name arity = is_known (member_if allow kind.Static (member_of allow class name arity)) || instance_behind allow class name arity

abbrev pub refers_as : AllowList → ℕ → List ℕ → Option MemberType → Bool
refers_as allow class name None = false
refers_as allow class name (Some m) = refers allow class name (length m.params)

-- whether it means something here; where the interface is found when the script runs, this is found then too
abbrev pub meets : AllowList → Wanted → ℕ → List ℕ → Bool
meets allow Nothing class name = false
meets allow Any class name = true
meets allow (Interface interface) class name = refers_as allow class name (method_in allow interface)

-- what the prelude has is not built, and code names a member by a word
abbrev pub is_prelude_name : List ℕ → MemberType → Bool
is_prelude_name name m = is_in_prelude m.origin && bytes_eq m.name name

abbrev pub is_left_out : List ℕ → Bool
is_left_out name = list_any (is_prelude_name name) catalogue || not (is_word name)

abbrev pub reference : Option ℕ → ℕ → ℕ → List ℕ → Part
reference interface at class name = plain at (typed at (value_type interface) (n.Reference interface class name))

abbrev pub reference_to : AllowList → Wanted → Option ℕ → ℕ → ℕ → List ℕ → Out Part
reference_to allow wanted interface at class name =
    if is_left_out name then refuse OUT_OF_PROFILE at
    else (if meets allow wanted class name then Ok (reference interface at class name) else refuse UNKNOWN_MEMBER at)

-- what is no class has no members
abbrev pub reference_layer : AllowList → Wanted → Option ℕ → ℕ → List ℕ → Ty-F Ty → Out Part
reference_layer allow wanted interface at name (Ty-F.Class class) = reference_to allow wanted interface at class name
reference_layer allow wanted interface at name _ = refuse UNKNOWN_MEMBER at

-- `T::m` at its first token
abbrev pub reference_of : AllowList → Wanted → ℕ → List ℕ → Ty → Out Part
reference_of allow wanted at name of = bind (taken wanted at) (λ interface. reference_layer allow wanted interface at name (out-Ty of))

-- ---- `T::new`

-- of an array it makes one of the length that is its one argument
abbrev pub makes_layer : AllowList → ℕ → Ty-F Ty → Bool
makes_layer allow arity (Ty-F.Class class) = is_known (constructor_if allow class (member_of allow class [] arity))
makes_layer allow arity (Ty-F.Array element) = arity == 1
makes_layer allow arity _ = false

abbrev pub makes_as : AllowList → Ty → Option MemberType → Bool
makes_as allow of None = false
makes_as allow of (Some m) = makes_layer allow (length m.params) (out-Ty of)

abbrev pub makes : AllowList → Wanted → Ty → Bool
makes allow Nothing of = false
makes allow Any of = true
makes allow (Interface interface) of = makes_as allow of (method_in allow interface)

abbrev pub new_reference : Option ℕ → ℕ → Ty → Part
new_reference interface at of = plain at (typed at (value_type interface) (n.NewReference interface of))

abbrev pub new_reference_of : AllowList → Wanted → ℕ → Ty → Out Part
new_reference_of allow wanted at of =
    bind (taken wanted at) (λ interface. if makes allow wanted of then Ok (new_reference interface at of) else refuse UNKNOWN_MEMBER at)
