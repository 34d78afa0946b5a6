-- Members: which one a name means, and its call.
use Rattle.std.specs.Prelude.{ℕ, ◌-◌, ◌&&◌, ◌||◌, nat_le, Bool, true, false, List, [], ◌∷◌, ◌++◌, codes, length, Option, Some, None, Ok, not, if◌then◌else◌}
use Rattle.std.specs.List.{list_all, list_any}
use Rattle.pl_types.specs.declared.ty.Ty.{Ty, out-Ty}
use Rattle.pl_types.specs.declared.ty.Ty.TheOpen.{Ty-F}
use Rattle.pl_types.specs.declared.ty.Ty.TheVariants as t
use Rattle.pl_types.specs.declared.rules.TheConstants.{UNKNOWN_MEMBER, BAD_NULLABLE, OUT_OF_PROFILE}
use Rattle.pl_tree.specs.declared.operator.Access.{Access}
use Rattle.pl_tree.specs.declared.operator.Access.TheVariants as access
use Rattle.allowlist.specs.declared.member.MemberKind.{MemberKind}
use Rattle.allowlist.specs.declared.member.MemberKind.TheVariants as kind
use Rattle.allowlist.specs.declared.member.MemberType.{MemberType}
use Rattle.allowlist.specs.Allow.{AllowList, own_member, member_of, has_name, is_in_prelude}
use Rattle.allowlist.specs.Catalogue.{catalogue}
use Rattle.allowlist.specs.Index.{member_in}
use Rattle.member_names.specs.Names.{text_of}
use Rattle.typed_tree.specs.declared.operation.Member.{Member}
use Rattle.typed_tree.specs.declared.operation.Operation.{Operation}
use Rattle.typed_tree.specs.declared.operation.Operation.TheVariants as o
use Rattle.typed_tree.specs.declared.typed.Typed.{Typed}
use Rattle.typed_tree.specs.declared.typed.Node.{Node}
use Rattle.typed_tree.specs.declared.typed.Node.TheVariants as n
use Rattle.listing_parts.specs.Names.{is_word}
use Rattle.typing_rules.specs.declared.part.Part.{Part}
use Rattle.typing_rules.specs.declared.part.Form.TheVariants as f
use Rattle.typing_rules.specs.Outcomes.{Out, refuse, bind}
use Rattle.typing_rules.specs.Rules.Nodes.{typed, applied, part, plain, type_of_part, is_void}
use Rattle.typing_rules.specs.Rules.Types.{is_built_class, is_built}
use Rattle.typing_rules.specs.Rules.Casts.{cast_to, cast_each}
use Rattle.typing_rules.specs.Rules.Operators.{primitive_of, is_primitive}

-- ---- which members are built

-- a type that a member that is built may name
abbrev pub is_open : Ty → Bool
is_open of = is_void of || is_built of

-- Built are the members of the classes that are built, but for those that name another class. (The members that the prelude has take
-- functions.)
abbrev pub is_open_member : MemberType → Bool
is_open_member m = is_built_class m.owner && (list_all is_open m.params && is_open m.result)

abbrev pub is_open_at : AllowList → ℕ → Bool
is_open_at allow number = is_open_member (member_in allow number)

-- a member of the kind that is wanted
abbrev pub is_kind : MemberKind → MemberKind → Bool
is_kind kind.Constructor kind.Constructor = true
is_kind kind.Static kind.Static = true
is_kind kind.Instance kind.Instance = true
is_kind kind.Field kind.Field = true
is_kind _ _ = false

abbrev pub wanted_as : AllowList → MemberKind → ℕ → ℕ → Out ℕ
wanted_as allow kind at number =
    if is_kind kind (member_in allow number).kind
    then (if is_open_at allow number then Ok number else refuse OUT_OF_PROFILE at)
    else refuse UNKNOWN_MEMBER at

-- what is found counts where it is of the kind that is wanted; a member that is farther above is not looked at
abbrev pub wanted : AllowList → MemberKind → ℕ → Option ℕ → Out ℕ
wanted allow kind at None = refuse UNKNOWN_MEMBER at
wanted allow kind at (Some number) = wanted_as allow kind at number

abbrev pub member : AllowList → ℕ → Member
member allow number = record { number = number; text = text_of (member_in allow number) }

-- each argument cast to its parameter's type
abbrev pub cast_all : List Ty → List Part → Out (List Typed)
cast_all (t ∷ ts) (x ∷ xs) = bind (cast_to t x) (λ y. bind (cast_all ts xs) (λ ys. Ok (y ∷ ys)))
cast_all _ _ = Ok []

-- the arguments of a member's call
abbrev pub member_arguments : AllowList → ℕ → List Part → Out (List Typed)
member_arguments allow number xs = cast_all (member_in allow number).params xs

-- what a call behind `?.` gives may be null, and so is no primitive
abbrev pub guards : Access → Bool
guards access.Plain = false
guards access.Guarded = true

abbrev pub gives_primitive : AllowList → ℕ → Bool
gives_primitive allow number = is_primitive (primitive_of (member_in allow number).result)

abbrev pub nullable : AllowList → Access → ℕ → ℕ → Part → Out Part
nullable allow access at number x = if guards access && gives_primitive allow number then refuse BAD_NULLABLE at else Ok x

abbrev pub result : AllowList → ℕ → Ty
result allow number = (member_in allow number).result

-- ---- calls on a value

-- an operation on a value, which `?.` leaves out where that is null
abbrev pub accessed : Access → Operation → List Typed → Node
accessed access.Plain operation parts = n.Apply operation parts
accessed access.Guarded operation parts = n.Guarded operation parts

abbrev pub instance_node : AllowList → Access → ℕ → ℕ → List Typed → Part
instance_node allow access at number ys = part at f.Deed (typed at (result allow number) (accessed access (o.Instance (member allow number)) ys))

abbrev pub instance_call : AllowList → Access → ℕ → ℕ → Part → List Part → Out Part
instance_call allow access at number x xs = bind (member_arguments allow number xs) (λ ys. nullable allow access at number (instance_node allow access at number (x.typed ∷ ys)))

abbrev pub instance_named : AllowList → Access → ℕ → List ℕ → ℕ → Part → List Part → Out Part
instance_named allow access at name class x xs =
    bind (wanted allow kind.Instance at (member_of allow class name (length xs))) (λ number. instance_call allow access at number x xs)

-- a member that the prelude has, which is not built
abbrev pub is_prelude_member : List ℕ → ℕ → MemberType → Bool
is_prelude_member name arity m = is_in_prelude m.origin && has_name name arity m

abbrev pub names_prelude : List ℕ → ℕ → Bool
names_prelude name arity = list_any (is_prelude_member name arity) catalogue

-- A call of a member that is found when the script runs. Code names it by a word, as each name of a script is.
abbrev pub def_call : Access → ℕ → List ℕ → Part → List Part → Out Part
def_call access at name x xs =
    if names_prelude name (length xs) || not (is_word name) then refuse OUT_OF_PROFILE at
    else bind (cast_each t.Def xs) (λ ys. Ok (part at f.Deed (typed at t.Def (accessed access (o.DefCall name) (x.typed ∷ ys)))))

-- a primitive, void, null and an array have no members
abbrev pub called_layer : AllowList → Ty-F Ty → Access → ℕ → List ℕ → Part → List Part → Out Part
called_layer allow (Ty-F.Class c) access at name x xs = instance_named allow access at name c x xs
called_layer allow Ty-F.Def access at name x xs = def_call access at name x xs
called_layer allow _ access at name x xs = refuse UNKNOWN_MEMBER at

abbrev pub method_of : AllowList → Access → ℕ → List ℕ → Part → List Part → Out Part
method_of allow access at name x xs = called_layer allow (out-Ty (type_of_part x)) access at name x xs

-- ---- calls on a class; `?.` guards nothing there

abbrev pub static_node : AllowList → ℕ → ℕ → List Typed → Part
static_node allow at number ys = part at f.Deed (applied at (result allow number) (o.Static (member allow number)) ys)

abbrev pub static_call : AllowList → Access → ℕ → ℕ → List Part → Out Part
static_call allow access at number xs = bind (member_arguments allow number xs) (λ ys. nullable allow access at number (static_node allow at number ys))

abbrev pub static_layer : AllowList → Ty-F Ty → Access → ℕ → List ℕ → List Part → Out Part
static_layer allow (Ty-F.Class c) access at name xs = bind (wanted allow kind.Static at (member_of allow c name (length xs))) (λ number. static_call allow access at number xs)
static_layer allow _ access at name xs = refuse UNKNOWN_MEMBER at

abbrev pub static_of : AllowList → Access → ℕ → List ℕ → Ty → List Part → Out Part
static_of allow access at name of xs = static_layer allow (out-Ty of) access at name xs

-- ---- `new`

abbrev pub constructed : AllowList → ℕ → ℕ → List Part → Out Part
constructed allow at number xs = bind (member_arguments allow number xs) (λ ys. Ok (part at f.Deed (applied at (result allow number) (o.Constructor (member allow number)) ys)))

-- a constructor is the class's own
abbrev pub new_layer : AllowList → Ty-F Ty → ℕ → List Part → Out Part
new_layer allow (Ty-F.Class c) at xs = bind (wanted allow kind.Constructor at (own_member allow c [] (length xs))) (λ number. constructed allow at number xs)
new_layer allow _ at xs = refuse UNKNOWN_MEMBER at

abbrev pub new_of : AllowList → ℕ → Ty → List Part → Out Part
new_of allow at of xs = new_layer allow (out-Ty of) at xs

-- ---- names behind a dot

-- the first letter in ASCII upper case
abbrev pub upper : ℕ → ℕ
upper b = if nat_le 97 b && nat_le b 122 then b - 32 else b

abbrev pub capital : List ℕ → List ℕ
capital [] = []
capital (b ∷ rest) = upper b ∷ rest

abbrev pub or_else : Option ℕ → Option ℕ → Option ℕ
or_else None other = other
or_else (Some number) other = Some number

-- the getter of a name
abbrev pub getter : AllowList → ℕ → List ℕ → Option ℕ
getter allow class name = or_else (member_of allow class (codes "get" ++ capital name) 0) (member_of allow class (codes "is" ++ capital name) 0)

abbrev pub plainly : Part → Part
plainly x = plain x.at x.typed

-- what a name of a value means: its getter, which is no statement
abbrev pub read_named : AllowList → Access → ℕ → List ℕ → ℕ → Part → Out Part
read_named allow access at name class x =
    bind (wanted allow kind.Instance at (getter allow class name)) (λ number. bind (instance_call allow access at number x []) (λ y. Ok (plainly y)))

-- a field of a class
abbrev pub field_node : AllowList → ℕ → ℕ → Part
field_node allow at number = plain at (applied at (result allow number) (o.Field (member allow number)) [])

abbrev pub field_layer : AllowList → Ty-F Ty → Access → ℕ → List ℕ → Out Part
field_layer allow (Ty-F.Class c) access at name = bind (wanted allow kind.Field at (member_of allow c name 0)) (λ number. nullable allow access at number (field_node allow at number))
field_layer allow _ access at name = refuse UNKNOWN_MEMBER at

abbrev pub field_of : AllowList → Access → ℕ → List ℕ → Ty → Out Part
field_of allow access at name of = field_layer allow (out-Ty of) access at name
