-- What is read of a value: an element in brackets, a name behind a dot, and an element by its number.
use Rattle.std.specs.Prelude.{ℕ, ◌^◌, nat_le, nat_lt, bytes_eq, codes, pos, Bool, true, false, ◌&&◌, List, [], ◌∷◌, Option, Some, None, Ok, if◌then◌else◌}
use Rattle.pl_types.specs.declared.ty.Ty.{Ty, out-Ty}
use Rattle.pl_types.specs.declared.ty.Ty.TheOpen.{Ty-F}
use Rattle.pl_types.specs.declared.ty.Ty.TheVariants as t
use Rattle.pl_types.specs.declared.primitive.Primitive.TheVariants as p
use Rattle.pl_types.specs.declared.conversion.Cast.TheVariants as cast
use Rattle.pl_types.specs.declared.classes.TheConstants.{LIST, MAP, LINKED_HASH_MAP, INTEGER, STRING}
use Rattle.pl_types.specs.declared.rules.TheConstants.{UNKNOWN_MEMBER, BAD_NULLABLE, LITERAL_RANGE}
use Rattle.pl_types.specs.Classes.{class_is_below}
use Rattle.pl_tree.specs.declared.operator.Access.{Access}
use Rattle.pl_tree.specs.declared.operator.Access.TheVariants as access
use Rattle.allowlist.specs.declared.member.MemberKind.TheVariants as kind
use Rattle.allowlist.specs.Allow.{AllowList, member_of}
use Rattle.typed_tree.specs.declared.operation.Operation.{Operation}
use Rattle.typed_tree.specs.declared.operation.Operation.TheVariants as o
use Rattle.typed_tree.specs.declared.operation.Operator.TheVariants as operator
use Rattle.typed_tree.specs.declared.typed.Typed.{Typed}
use Rattle.typed_tree.specs.declared.typed.Node.TheVariants as n
use Rattle.typing_rules.specs.declared.part.Part.{Part}
use Rattle.typing_rules.specs.declared.part.Form.TheVariants as f
use Rattle.typing_rules.specs.Outcomes.{Out, refuse, bind}
use Rattle.typing_rules.specs.Rules.Nodes.{typed, applied, part, plain, type_of_part}
use Rattle.typing_rules.specs.Rules.Casts.{cast_at}
use Rattle.typing_rules.specs.Rules.Digits.{magnitude}
use Rattle.typing_rules.specs.Rules.Literals.{int_literal}
use Rattle.typing_rules.specs.Rules.Members.{wanted, instance_call, plainly, read_named, accessed, guards}

-- the classes of lists and those of maps
abbrev pub is_list : ℕ → Bool
is_list c = class_is_below c LIST

abbrev pub is_map : ℕ → Bool
is_map c = nat_le MAP c && nat_le c LINKED_HASH_MAP

-- ---- indexes

-- Where the cast of an index stands: where the index does, or at the assignment that reads and writes.
abbrev pub stands : Option ℕ → Part → ℕ
stands None i = i.at
stands (Some at) i = at

abbrev pub index_as : Ty → Option ℕ → Part → Out Typed
index_as to by i = cast_at (stands by i) to i false

-- a position in an array
abbrev pub position : Option ℕ → Part → Out Typed
position by i = index_as (t.Prim p.Int) by i

-- a position in a list, in its box
abbrev pub boxed : ℕ → Typed → Typed
boxed at y = applied at (t.Class INTEGER) (o.Cast (cast.Wrap p.Int p.Int)) (y ∷ [])

abbrev pub boxed_position : Option ℕ → Part → Out Typed
boxed_position by i = bind (position by i) (λ y. Ok (boxed (stands by i) y))

-- a key of a map, or an index of a def
abbrev pub key : Option ℕ → Part → Out Typed
key by i = index_as t.Def by i

-- the member that reads an element of a list or a map
abbrev pub get_of : AllowList → ℕ → ℕ → Out ℕ
get_of allow at c = wanted allow kind.Instance at (member_of allow c (codes "get") 1)

-- `get` of a list or a map, with what is given to it
abbrev pub got : AllowList → Access → ℕ → ℕ → Part → Part → Out Part
got allow access at c x i = bind (get_of allow at c) (λ number. bind (instance_call allow access at number x (i ∷ [])) (λ y. Ok (plainly y)))

abbrev pub element_node : ℕ → Ty → Operation → Part → Typed → Part
element_node at of operation x y = plain at (applied at of operation (x.typed ∷ y ∷ []))

abbrev pub element_of_array : ℕ → Ty → Part → Part → Out Part
element_of_array at of x i = bind (position None i) (λ y. Ok (element_node at of (o.Operator operator.Element) x y))

-- an index that may count from the end
abbrev pub element_of_list : AllowList → ℕ → ℕ → Part → Part → Out Part
element_of_list allow at c x i = bind (get_of allow at c) (λ number. bind (boxed_position None i) (λ y. Ok (element_node at t.Def o.DefIndex x y)))

abbrev pub element_of_def : ℕ → Part → Part → Out Part
element_of_def at x i = bind (key None i) (λ y. Ok (element_node at t.Def o.DefIndex x y))

abbrev pub indexed_class : AllowList → ℕ → ℕ → Part → Part → Out Part
indexed_class allow c at x i = if is_map c then got allow access.Plain at c x i else (if is_list c then element_of_list allow at c x i else refuse UNKNOWN_MEMBER at)

abbrev pub indexed_layer : AllowList → Ty-F Ty → ℕ → Part → Part → Out Part
indexed_layer allow (Ty-F.Array of) at x i = element_of_array at of x i
indexed_layer allow (Ty-F.Class c) at x i = indexed_class allow c at x i
indexed_layer allow Ty-F.Def at x i = element_of_def at x i
indexed_layer allow _ at x i = refuse UNKNOWN_MEMBER at

-- an element in brackets
abbrev pub index_of : AllowList → ℕ → Part → Part → Out Part
index_of allow at x i = indexed_layer allow (out-Ty (type_of_part x)) at x i

-- ---- names

-- a name of a map is a key of it
abbrev pub text_part : ℕ → List ℕ → Part
text_part at name = part at f.Literal (typed at (t.Class STRING) (n.Text name))

-- an access by name that is found when the script runs
abbrev pub def_name : Access → ℕ → List ℕ → Part → Part
def_name access at name x = plain at (typed at t.Def (accessed access (o.DefName name) (x.typed ∷ [])))

abbrev pub length_of : Access → ℕ → Part → Out Part
length_of access at x = if guards access then refuse BAD_NULLABLE at else Ok (plain at (applied at (t.Prim p.Int) (o.Operator operator.Length) (x.typed ∷ [])))

-- an array has a length, and no other name
abbrev pub is_length : List ℕ → Bool
is_length name = bytes_eq name (codes "length")

abbrev pub named_array : Access → ℕ → List ℕ → Part → Out Part
named_array access at name x = if is_length name then length_of access at x else refuse UNKNOWN_MEMBER at

abbrev pub named_class : AllowList → ℕ → Access → ℕ → List ℕ → Part → Out Part
named_class allow c access at name x = if is_map c then got allow access at c x (text_part at name) else read_named allow access at name c x

abbrev pub named_layer : AllowList → Ty-F Ty → Access → ℕ → List ℕ → Part → Out Part
named_layer allow (Ty-F.Class c) access at name x = named_class allow c access at name x
named_layer allow (Ty-F.Array of) access at name x = named_array access at name x
named_layer allow Ty-F.Def access at name x = Ok (def_name access at name x)
named_layer allow _ access at name x = refuse UNKNOWN_MEMBER at

-- a name behind a dot
abbrev pub read_of : AllowList → Access → ℕ → List ℕ → Part → Out Part
read_of allow access at name x = named_layer allow (out-Ty (type_of_part x)) access at name x

-- ---- numbers behind a dot

-- the number, which is an int
abbrev pub number_at : ℕ → List ℕ → Out Part
number_at at digits = if nat_lt (magnitude digits) (2 ^ 31) then Ok (int_literal at (pos (magnitude digits))) else refuse LITERAL_RANGE at

-- a number of a map is a key of it too, a list has an element there, and no other class has a name that is a number
abbrev pub numbered_class : AllowList → ℕ → Access → ℕ → List ℕ → Part → Out Part
numbered_class allow c access at digits x =
    if is_map c then got allow access at c x (text_part at digits)
    else (if is_list c then bind (number_at at digits) (λ i. got allow access at c x i) else refuse UNKNOWN_MEMBER at)

abbrev pub numbered_layer : AllowList → Ty-F Ty → Access → ℕ → List ℕ → Part → Out Part
numbered_layer allow (Ty-F.Class c) access at digits x = numbered_class allow c access at digits x
numbered_layer allow Ty-F.Def access at digits x = Ok (def_name access at digits x)
numbered_layer allow _ access at digits x = refuse UNKNOWN_MEMBER at

-- an element by its number
abbrev pub numbered_of : AllowList → Access → ℕ → List ℕ → Part → Out Part
numbered_of allow access at digits x = numbered_layer allow (out-Ty (type_of_part x)) access at digits x
