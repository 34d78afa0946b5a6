-- Accesses reach nothing but what the list allows.
use Rattle.std.proofs.Common.{◌≡◌, ℕ, Bool, true, false, cond, List, Option, Some, None, refl}
use Rattle.std.specs.Str.{bytes_eq}
use Rattle.std.specs.Prelude.{option_map, codes}
use Rattle.allowlist.specs.declared.member.MemberKind.TheVariants.{Instance}
use Rattle.allowlist.specs.declared.name.Accessor.TheVariants.{Get, Is, Set}
use Rattle.allowlist.specs.Accessors.{accessor_name}
use Rattle.allowlist.specs.Allow.{AllowList, member_of, or_else}
use Rattle.object_values.specs.declared.object.Object.{Object}
use Rattle.object_values.specs.declared.object.Object.TheVariants as o
use Rattle.object_values.specs.declared.value.Value.{Value}
use Rattle.object_values.specs.declared.value.Value.TheVariants as v
use Rattle.def_resolve.specs.declared.access.Purpose.{Purpose}
use Rattle.def_resolve.specs.declared.access.Purpose.TheVariants.{Read, Write}
use Rattle.def_resolve.specs.declared.access.Place.{Place}
use Rattle.def_resolve.specs.declared.access.NameAccess.TheVariants as by_name
use Rattle.def_resolve.specs.declared.access.IndexAccess.TheVariants as by_index
use Rattle.def_resolve.specs.Resolution.{IsListed, class_of, class_of_object, instance_in, instance_member}
use Rattle.def_resolve.specs.Accesses.{NameConfined, IndexConfined, accessor_of, item_member, key_member, place_of, property_of, in_list, in_array, in_object, at_object, name_access}
use Rattle.def_resolve.proofs.Members.{is_instance_in, is_member, listed}

-- each number that may be there is a listed instance member's
abbrev AllListed : AllowList → Option ℕ → Type 0
AllListed allow found = (number : ℕ) → found ≡ Some number → IsListed allow Instance number

listed_instance : (allow : AllowList) (class : ℕ) (name : List ℕ) (arity : ℕ) → AllListed allow (instance_member allow class name arity)
listed_instance allow class name arity number h = (is_member allow class name arity number h).member

listed_in : (allow : AllowList) (class : ℕ) (name : List ℕ) (arity : ℕ) → AllListed allow (instance_in allow (member_of allow class name arity))
listed_in allow class name arity number h =
    let p = is_instance_in allow (member_of allow class name arity) number h in
    listed allow class name arity number Instance p.0 p.1

first_listed : (allow : AllowList) (first second : Option ℕ) → AllListed allow (instance_in allow first) → AllListed allow (instance_in allow second) → AllListed allow (instance_in allow (or_else first second))
first_listed allow None second h k = k
first_listed allow (Some number) second h k = h

accessor_listed : (purpose : Purpose) (allow : AllowList) (class : ℕ) (name : List ℕ) → AllListed allow (accessor_of purpose allow class name)
unfolding accessor_of
accessor_listed Read allow class name =
    first_listed allow (member_of allow class (accessor_name Get name) 0) (member_of allow class (accessor_name Is name) 0)
    (listed_in allow class (accessor_name Get name) 0) (listed_in allow class (accessor_name Is name) 0)
accessor_listed Write allow class name = listed_in allow class (accessor_name Set name) 1

item_listed : (purpose : Purpose) (allow : AllowList) (class : ℕ) → AllListed allow (item_member purpose allow class)
unfolding item_member
item_listed Read allow class = listed_instance allow class (codes "get") 1
item_listed Write allow class = listed_instance allow class (codes "set") 2

key_listed : (purpose : Purpose) (allow : AllowList) (class : ℕ) → AllListed allow (key_member purpose allow class)
unfolding key_member
key_listed Read allow class = listed_instance allow class (codes "get") 1
key_listed Write allow class = listed_instance allow class (codes "put") 2

-- names behind a dot

as_accessor : (allow : AllowList) (found : Option ℕ) → AllListed allow found → NameConfined allow (option_map by_name.Accessor found)
as_accessor allow None h = tt
as_accessor allow (Some number) h = h number refl

as_key : (allow : AllowList) (found : Option ℕ) → AllListed allow found → NameConfined allow (option_map by_name.Key found)
as_key allow None h = tt
as_key allow (Some number) h = h number refl

as_item : (allow : AllowList) (place : Place) (found : Option ℕ) → AllListed allow found → NameConfined allow (option_map (λ number. by_name.Item number place) found)
as_item allow place None h = tt
as_item allow place (Some number) h = h number refl

pub property_confined : (purpose : Purpose) (allow : AllowList) (name : List ℕ) (class : Option ℕ) → NameConfined allow (property_of purpose allow name class)
property_confined purpose allow name None = tt
property_confined purpose allow name (Some class) = as_accessor allow (accessor_of purpose allow class name) (accessor_listed purpose allow class name)

list_confined : (purpose : Purpose) (allow : AllowList) (class : ℕ) (name : List ℕ) (place : Option Place) → NameConfined allow (in_list purpose allow class name place)
list_confined purpose allow class name None = property_confined purpose allow name (Some class)
list_confined purpose allow class name (Some place) = as_item allow place (item_member purpose allow class) (item_listed purpose allow class)

array_confined : (purpose : Purpose) (allow : AllowList) (name : List ℕ) → NameConfined allow (in_array purpose name)
array_confined Read allow name = length_confined (bytes_eq name (codes "length"))
  where
    length_confined : (t : Bool) → NameConfined allow (cond t (Some by_name.Length) None)
    length_confined true = tt
    length_confined false = tt
array_confined Write allow name = tt

pub object_confined : (purpose : Purpose) (allow : AllowList) (name : List ℕ) (object : Object) → NameConfined allow (in_object purpose allow name object)
object_confined purpose allow name (o.Map class pairs guard changes) = as_key allow (key_member purpose allow class) (key_listed purpose allow class)
object_confined purpose allow name (o.List class items guard changes) = list_confined purpose allow class name (place_of name)
object_confined purpose allow name (o.Array elem items) = array_confined purpose allow name
object_confined purpose allow name object = property_confined purpose allow name (class_of_object object)

-- what is no object has properties alone
pub other_name : (purpose : Purpose) (allow : AllowList) (objects : List Object) (value : Value) (name : List ℕ) → ((id : ℕ) → value ≡ v.Ref id → ⊥)
    → property_of purpose allow name (class_of objects value) ≡ name_access purpose allow objects value name
other_name purpose allow objects (v.Ref id) name differs = absurd (differs id refl)
other_name purpose allow objects value name differs = refl

-- indices

at_key : (allow : AllowList) (found : Option ℕ) → AllListed allow found → IndexConfined allow (option_map by_index.Key found)
at_key allow None h = tt
at_key allow (Some number) h = h number refl

at_item : (allow : AllowList) (found : Option ℕ) → AllListed allow found → IndexConfined allow (option_map by_index.Item found)
at_item allow None h = tt
at_item allow (Some number) h = h number refl

pub index_confined : (purpose : Purpose) (allow : AllowList) (object : Object) → IndexConfined allow (at_object purpose allow object)
index_confined purpose allow (o.Map class pairs guard changes) = at_key allow (key_member purpose allow class) (key_listed purpose allow class)
index_confined purpose allow (o.List class items guard changes) = at_item allow (item_member purpose allow class) (item_listed purpose allow class)
index_confined purpose allow object = tt
