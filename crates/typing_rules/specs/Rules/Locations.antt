-- What is written to that is no variable. A plain assignment writes; one with an operator, `++` and `--` read too, and then what is added
-- of casts stands at them.
use Rattle.std.specs.Prelude.{ℕ, codes, ◌++◌, List, [], ◌∷◌, Option, Some, None, Ok, if◌then◌else◌}
use Rattle.pl_types.specs.declared.ty.Ty.{Ty, out-Ty}
use Rattle.pl_types.specs.declared.ty.Ty.TheOpen.{Ty-F}
use Rattle.pl_types.specs.declared.ty.Ty.TheVariants as t
use Rattle.pl_types.specs.declared.rules.TheConstants.{UNKNOWN_MEMBER}
use Rattle.allowlist.specs.declared.member.MemberKind.TheVariants as kind
use Rattle.allowlist.specs.Allow.{AllowList, member_of}
use Rattle.allowlist.specs.Index.{member_in}
use Rattle.typed_tree.specs.declared.operation.Operation.{Operation}
use Rattle.typed_tree.specs.declared.operation.Operation.TheVariants as o
use Rattle.typed_tree.specs.declared.operation.Operator.TheVariants as operator
use Rattle.typed_tree.specs.declared.operation.Target.TheVariants as target
use Rattle.typed_tree.specs.declared.typed.Typed.{Typed}
use Rattle.typing_rules.specs.declared.part.Location.{Location}
use Rattle.typing_rules.specs.declared.part.Part.{Part}
use Rattle.typing_rules.specs.declared.part.Place.{Place}
use Rattle.typing_rules.specs.declared.part.Place.TheVariants as place
use Rattle.typing_rules.specs.Outcomes.{Out, refuse, bind}
use Rattle.typing_rules.specs.Rules.Nodes.{type_of_part}
use Rattle.typing_rules.specs.Rules.Members.{wanted, getter, capital, member, result}
use Rattle.typing_rules.specs.Rules.Accesses.{is_list, is_map, position, boxed_position, key, get_of, text_part, number_at, is_length}

-- what reads, where something is read
abbrev pub reading_if : Option ℕ → Operation → Option Operation
reading_if None read = None
reading_if (Some at) read = Some read

-- what one operation reads and another writes
abbrev pub held : Option ℕ → Operation → Operation → List Typed → Ty → Ty → Place
held by read write parts gives takes = place.Written (record { target = target.Place (reading_if by read) write; parts = parts; gives = gives; takes = takes })

-- the member that reads is needed where something is read
abbrev pub read_if : Option ℕ → Out ℕ → Out (Option ℕ)
read_if None found = Ok None
read_if (Some at) found = bind found (λ number. Ok (Some number))

abbrev pub instance_if : AllowList → Option ℕ → Option Operation
instance_if allow None = None
instance_if allow (Some number) = Some (o.Instance (member allow number))

-- the type of what is read; where nothing is, that of what is written
abbrev pub given_by : AllowList → Option ℕ → Ty → Ty
given_by allow None takes = takes
given_by allow (Some number) takes = result allow number

-- what a member reads, if one does, and another writes
abbrev pub held_by : AllowList → Option ℕ → ℕ → List Typed → Ty → Place
held_by allow read write parts takes = place.Written (record { target = target.Place (instance_if allow read) (o.Instance (member allow write)); parts = parts; gives = given_by allow read takes; takes = takes })

-- ---- elements in brackets

abbrev pub in_array : Option ℕ → Ty → Part → Part → Out Place
in_array by of x i = bind (position by i) (λ y. Ok (held by (o.Operator operator.Element) (o.Operator operator.PutElement) (x.typed ∷ y ∷ []) of of))

abbrev pub set_of : AllowList → ℕ → ℕ → Out ℕ
set_of allow at c = wanted allow kind.Instance at (member_of allow c (codes "set") 2)

abbrev pub put_of : AllowList → ℕ → ℕ → Out ℕ
put_of allow at c = wanted allow kind.Instance at (member_of allow c (codes "put") 2)

abbrev pub in_list : AllowList → Option ℕ → ℕ → ℕ → Part → Part → Out Place
in_list allow by at c x i =
    bind (read_if by (get_of allow at c)) (λ read. bind (set_of allow at c) (λ write. bind (boxed_position by i) (λ y.
    Ok (held by o.DefIndex o.PutDefIndex (x.typed ∷ y ∷ []) t.Def t.Def))))

-- a key of a map
abbrev pub in_map : AllowList → Option ℕ → ℕ → ℕ → Part → Part → Out Place
in_map allow by at c x i =
    bind (read_if by (get_of allow at c)) (λ read. bind (put_of allow at c) (λ write. bind (key by i) (λ y. Ok (held_by allow read write (x.typed ∷ y ∷ []) t.Def))))

abbrev pub in_def : Option ℕ → Part → Part → Out Place
in_def by x i = bind (key by i) (λ y. Ok (held by o.DefIndex o.PutDefIndex (x.typed ∷ y ∷ []) t.Def t.Def))

abbrev pub in_class : AllowList → ℕ → Option ℕ → ℕ → Part → Part → Out Place
in_class allow c by at x i = if is_map c then in_map allow by at c x i else (if is_list c then in_list allow by at c x i else refuse UNKNOWN_MEMBER at)

abbrev pub in_layer : AllowList → Ty-F Ty → Option ℕ → ℕ → Part → Part → Out Place
in_layer allow (Ty-F.Array of) by at x i = in_array by of x i
in_layer allow (Ty-F.Class c) by at x i = in_class allow c by at x i
in_layer allow Ty-F.Def by at x i = in_def by x i
in_layer allow _ by at x i = refuse UNKNOWN_MEMBER at

-- an element in brackets as what is written to
abbrev pub index_location : AllowList → Option ℕ → ℕ → Part → Part → Out Place
index_location allow by at x i = in_layer allow (out-Ty (type_of_part x)) by at x i

-- ---- names

-- the setter of a name
abbrev pub setter : AllowList → ℕ → List ℕ → Option ℕ
setter allow class name = member_of allow class (codes "set" ++ capital name) 1

-- what a member takes first
abbrev pub first_of : List Ty → Ty
first_of [] = t.Def
first_of (of ∷ others) = of

abbrev pub taken_by : AllowList → ℕ → Ty
taken_by allow number = first_of (member_in allow number).params

abbrev pub by_accessors : AllowList → Option ℕ → ℕ → List ℕ → ℕ → Part → Out Place
by_accessors allow by at name c x =
    bind (read_if by (wanted allow kind.Instance at (getter allow c name))) (λ read. bind (wanted allow kind.Instance at (setter allow c name)) (λ write.
    Ok (held_by allow read write (x.typed ∷ []) (taken_by allow write))))

abbrev pub name_in_class : AllowList → ℕ → Option ℕ → ℕ → List ℕ → Part → Out Place
name_in_class allow c by at name x = if is_map c then in_map allow by at c x (text_part at name) else by_accessors allow by at name c x

-- the length of an array is read, and is not written to
abbrev pub name_in_array : ℕ → List ℕ → Out Place
name_in_array at name = if is_length name then Ok place.Fixed else refuse UNKNOWN_MEMBER at

abbrev pub name_in_def : Option ℕ → List ℕ → Part → Place
name_in_def by name x = held by (o.DefName name) (o.PutDefName name) (x.typed ∷ []) t.Def t.Def

abbrev pub name_layer : AllowList → Ty-F Ty → Option ℕ → ℕ → List ℕ → Part → Out Place
name_layer allow (Ty-F.Class c) by at name x = name_in_class allow c by at name x
name_layer allow (Ty-F.Array of) by at name x = name_in_array at name
name_layer allow Ty-F.Def by at name x = Ok (name_in_def by name x)
name_layer allow _ by at name x = refuse UNKNOWN_MEMBER at

-- a name behind a dot as what is written to
abbrev pub name_location : AllowList → Option ℕ → ℕ → List ℕ → Part → Out Place
name_location allow by at name x = name_layer allow (out-Ty (type_of_part x)) by at name x

-- ---- numbers behind a dot

-- an element of a list by its number, which does not count from the end
abbrev pub number_in_list : AllowList → Option ℕ → ℕ → ℕ → Part → Part → Out Place
number_in_list allow by at c x i =
    bind (read_if by (get_of allow at c)) (λ read. bind (set_of allow at c) (λ write. bind (position by i) (λ y. Ok (held_by allow read write (x.typed ∷ y ∷ []) t.Def))))

abbrev pub number_in_class : AllowList → ℕ → Option ℕ → ℕ → List ℕ → Part → Out Place
number_in_class allow c by at digits x =
    if is_map c then in_map allow by at c x (text_part at digits)
    else (if is_list c then bind (number_at at digits) (λ i. number_in_list allow by at c x i) else refuse UNKNOWN_MEMBER at)

abbrev pub number_layer : AllowList → Ty-F Ty → Option ℕ → ℕ → List ℕ → Part → Out Place
number_layer allow (Ty-F.Class c) by at digits x = number_in_class allow c by at digits x
number_layer allow Ty-F.Def by at digits x = Ok (name_in_def by digits x)
number_layer allow _ by at digits x = refuse UNKNOWN_MEMBER at

-- an element by its number as what is written to
abbrev pub number_location : AllowList → Option ℕ → ℕ → List ℕ → Part → Out Place
number_location allow by at digits x = number_layer allow (out-Ty (type_of_part x)) by at digits x
