-- What a name behind a dot means, and what an index in brackets, where the receiver's class is found when it runs.
use Rattle.std.specs.Prelude.{ℕ, ◌==◌, Bool, true, false, Option, Some, None, List, [], ◌∷◌, codes, nat_lt, pos, slice_get, option_map, if◌then◌else◌}
use Rattle.std.specs.Char.{is_ascii_digit}
use Rattle.std.specs.List.{list_all}
use Rattle.std.specs.Str.{bytes_eq}
use Rattle.std.specs.Str.Parse.{digits_value}
use Rattle.allowlist.specs.declared.member.MemberKind.TheVariants.{Instance}
use Rattle.allowlist.specs.declared.name.Accessor.TheVariants.{Get, Is, Set}
use Rattle.allowlist.specs.Accessors.{accessor_name}
use Rattle.allowlist.specs.Allow.{AllowList, member_of, or_else}
use Rattle.object_values.specs.declared.object.Object.{Object}
use Rattle.object_values.specs.declared.object.Object.TheVariants as o
use Rattle.object_values.specs.declared.value.Value.{Value}
use Rattle.object_values.specs.declared.value.Value.TheVariants as v
use Rattle.object_heap.specs.Parts.{asked}
use Rattle.def_resolve.specs.declared.access.Purpose.{Purpose}
use Rattle.def_resolve.specs.declared.access.Purpose.TheVariants.{Read, Write}
use Rattle.def_resolve.specs.declared.access.Place.{Place}
use Rattle.def_resolve.specs.declared.access.Place.TheVariants.{At, Beyond}
use Rattle.def_resolve.specs.declared.access.NameAccess.{NameAccess}
use Rattle.def_resolve.specs.declared.access.NameAccess.TheVariants as by_name
use Rattle.def_resolve.specs.declared.access.IndexAccess.{IndexAccess}
use Rattle.def_resolve.specs.declared.access.IndexAccess.TheVariants as by_index
use Rattle.def_resolve.specs.Resolution.{IsListed, class_of, class_of_object, instance_in, instance_member}

-- ---- the members by which a value is read and written

-- the accessor of a property: to read it `get` before its name, or else `is`, and to write it `set`
unfoldable pub accessor_of : Purpose → AllowList → ℕ → List ℕ → Option ℕ
accessor_of Read allow class property =
    instance_in allow (or_else (member_of allow class (accessor_name Get property) 0) (member_of allow class (accessor_name Is property) 0))
accessor_of Write allow class property = instance_in allow (member_of allow class (accessor_name Set property) 1)

-- an item of a list: `get` and `set`
unfoldable pub item_member : Purpose → AllowList → ℕ → Option ℕ
item_member Read allow class = instance_member allow class (codes "get") 1
item_member Write allow class = instance_member allow class (codes "set") 2

-- what a map has under a key: `get` and `put`
unfoldable pub key_member : Purpose → AllowList → ℕ → Option ℕ
key_member Read allow class = instance_member allow class (codes "get") 1
key_member Write allow class = instance_member allow class (codes "put") 2

-- ---- names that are indices

abbrev pub is_end : List ℕ → Bool
is_end [] = true
is_end (b ∷ bs) = false

-- 0, or digits that do not begin with 0
abbrev pub is_index : List ℕ → Bool
is_index [] = false
is_index (b ∷ bs) = if b == 48 then is_end bs else list_all is_ascii_digit (b ∷ bs)

-- an index that no int reaches is past the end of every list
abbrev pub place_at : ℕ → Place
place_at value = if nat_lt value 2147483648 then At (pos value) else Beyond

-- The place that a name behind a dot is, if it is an index. It counts from the front.
unfoldable pub place_of : List ℕ → Option Place
place_of name = if is_index name then Some (place_at (digits_value 10 name)) else None

-- ---- names behind a dot

-- of a value that is no map, list or array
abbrev pub property_of : Purpose → AllowList → List ℕ → Option ℕ → Option NameAccess
property_of purpose allow name None = None
property_of purpose allow name (Some class) = option_map by_name.Accessor (accessor_of purpose allow class name)

-- of a list an index is an item, and every other name a property
abbrev pub in_list : Purpose → AllowList → ℕ → List ℕ → Option Place → Option NameAccess
in_list purpose allow class name None = property_of purpose allow name (Some class)
in_list purpose allow class name (Some place) = option_map (λ number. by_name.Item number place) (item_member purpose allow class)

-- of an array there is its length, which is not written
abbrev pub in_array : Purpose → List ℕ → Option NameAccess
in_array Read name = if bytes_eq name (codes "length") then Some by_name.Length else None
in_array Write name = None

-- of a map every name is a key, an index too
abbrev pub in_object : Purpose → AllowList → List ℕ → Object → Option NameAccess
in_object purpose allow name (o.Map class pairs guard changes) = option_map by_name.Key (key_member purpose allow class)
in_object purpose allow name (o.List class items guard changes) = in_list purpose allow class name (place_of name)
in_object purpose allow name (o.Array elem items) = in_array purpose name
in_object purpose allow name object = property_of purpose allow name (class_of_object object)

-- What a name behind a dot of a value means, to read or to write it. Where nothing is there, it is none.
abbrev pub name_access : Purpose → AllowList → List Object → Value → List ℕ → Option NameAccess
name_access purpose allow objects (v.Ref id) name = asked (in_object purpose allow name) None (slice_get objects id)
name_access purpose allow objects value name = property_of purpose allow name (class_of objects value)

-- ---- indices in brackets

abbrev pub at_object : Purpose → AllowList → Object → Option IndexAccess
at_object purpose allow (o.Map class pairs guard changes) = option_map by_index.Key (key_member purpose allow class)
at_object purpose allow (o.List class items guard changes) = option_map by_index.Item (item_member purpose allow class)
at_object purpose allow (o.Array elem items) = Some by_index.Element
at_object purpose allow object = None

-- What an index in brackets of a value means: an item of a list, a key of a map, an element of an array, and of all else nothing.
abbrev pub index_access : Purpose → AllowList → List Object → Value → Option IndexAccess
index_access purpose allow objects (v.Ref id) = asked (at_object purpose allow) None (slice_get objects id)
index_access purpose allow objects value = None

-- ---- nothing but what the list allows is found

abbrev pub NameConfined : AllowList → Option NameAccess → Type 0
NameConfined allow None = Unit {0}
NameConfined allow (Some (by_name.Key number)) = IsListed allow Instance number
NameConfined allow (Some (by_name.Item number place)) = IsListed allow Instance number
NameConfined allow (Some (by_name.Accessor number)) = IsListed allow Instance number
NameConfined allow (Some by_name.Length) = Unit {0}

abbrev pub IndexConfined : AllowList → Option IndexAccess → Type 0
IndexConfined allow None = Unit {0}
IndexConfined allow (Some (by_index.Key number)) = IsListed allow Instance number
IndexConfined allow (Some (by_index.Item number)) = IsListed allow Instance number
IndexConfined allow (Some by_index.Element) = Unit {0}
