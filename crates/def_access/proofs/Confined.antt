-- Accesses call members that the list allows and that are built.
use Rattle.std.proofs.Common.{◌≡◌, ℕ, ℤ, Bool, true, false, Option, Some, None, List, [], ◌∷◌, length, refl, slice_get, if◌then◌else◌}
use Rattle.std.specs.Prelude.{option_map}
use Rattle.pl_types.specs.declared.ty.Ty.{Ty}
use Rattle.allowlist.specs.Allow.{AllowList, flag}
use Rattle.allowlist.specs.Index.{member_in}
use Rattle.object_values.specs.declared.object.Object.{Object}
use Rattle.object_values.specs.declared.value.Value.{Value}
use Rattle.object_values.specs.declared.value.Value.TheVariants as v
use Rattle.object_heap.specs.Parts.{asked, elem_of}
use Rattle.object_heap.specs.Store.{Store}
use Rattle.number_ops.specs.declared.outcome.Outcome.{Outcome}
use Rattle.number_ops.specs.declared.outcome.Outcome.TheVariants as outcome
use Rattle.member_calls.specs.Members.{is_built}
use Rattle.def_resolve.specs.declared.access.Purpose.{Purpose}
use Rattle.def_resolve.specs.declared.access.Purpose.TheVariants.{Read, Write}
use Rattle.def_resolve.specs.declared.access.Place.{Place}
use Rattle.def_resolve.specs.declared.access.Place.TheVariants.{At, Beyond}
use Rattle.def_resolve.specs.declared.access.NameAccess.{NameAccess}
use Rattle.def_resolve.specs.declared.access.NameAccess.TheVariants as by_name
use Rattle.def_resolve.specs.declared.access.IndexAccess.{IndexAccess}
use Rattle.def_resolve.specs.declared.access.IndexAccess.TheVariants as by_index
use Rattle.def_resolve.specs.declared.callee.Callee.{Callee}
use Rattle.def_resolve.specs.declared.callee.Callee.TheVariants.{Member, Iface}
use Rattle.def_resolve.specs.Accesses.{IndexConfined, NameConfined, at_object, in_object, index_access, name_access, property_of}
use Rattle.def_resolve.specs.Failures.{Failure, fails, no_accessor, no_index, no_method}
use Rattle.def_resolve.specs.Resolution.{class_of, instance_member, method_called, method_or, target_of}
use Rattle.def_resolve.proofs.Confined.{index_confined, object_confined, property_confined}
use Rattle.def_resolve.proofs.Members.{is_member}
use Rattle.def_access.specs.Access as access
use Rattle.def_access.specs.Access.{Access, Calls, Acts, All, Casts, Ended}
use Rattle.def_access.specs.Coming.{CalleeListed, NameListed}
use Rattle.def_access.specs.Laws.{IsConfined}

-- what is confined where a member is built is confined
built_confined : (allow : AllowList) (store : Store) (number : ℕ) (failure : Failure) (next : Access) → (is_built number ≡ true → IsConfined allow next) → IsConfined allow (access.if_built store number failure next)
built_confined allow store number failure next h = on (is_built number) h
  where
    on : (test : Bool) → (test ≡ true → IsConfined allow next) → IsConfined allow (if test then next else Acts (fails store failure))
    on true h = h refl
    on false h = tt

-- ---- indexes

int_confined : (allow : AllowList) (store : Store) (value : Value) (next : ℤ → Access) → ((at : ℤ) → IsConfined allow (next at)) → IsConfined allow (access.index_given store value next)
int_confined allow store (v.Int at) next h = h at
int_confined allow store value next h = tt

index_cast_confined : (allow : AllowList) (store : Store) (told : Outcome) (next : ℤ → Access) → ((at : ℤ) → IsConfined allow (next at)) → IsConfined allow (access.with_index store told next)
index_cast_confined allow store (outcome.Gives value) next h = int_confined allow store value next h
index_cast_confined allow store (outcome.Makes text) next h = tt
index_cast_confined allow store (outcome.Throws raised message) next h = tt
index_cast_confined allow store outcome.NoMemory next h = tt

read_confined : (allow : AllowList) (store : Store) (receiver index : Value) (found : Option IndexAccess) → IndexConfined allow found → IsConfined allow (access.index_read_by store receiver index found)
read_confined allow store receiver index None h = tt
read_confined allow store receiver index (Some (by_index.Key number)) h = built_confined allow store number (no_index Read store.objects receiver) _ (λ is. (h.allowed, is))
read_confined allow store receiver index (Some (by_index.Item number)) h =
    built_confined allow store number (no_index Read store.objects receiver) _ (λ is. index_cast_confined allow store (access.index_cast store.objects index) (access.item_read store number receiver) (λ at. (h.allowed, is)))
read_confined allow store receiver index (Some by_index.Element) h =
    index_cast_confined allow store (access.index_cast store.objects index) (access.own_element store receiver) (λ at. tt)

element_put_confined : (allow : AllowList) (store : Store) (elem : Ty) (array : Value) (at : ℤ) (told : Outcome) → IsConfined allow (access.element_put store elem array at told)
element_put_confined allow store elem array at (outcome.Gives value) = tt
element_put_confined allow store elem array at (outcome.Makes text) = tt
element_put_confined allow store elem array at (outcome.Throws raised message) = tt
element_put_confined allow store elem array at outcome.NoMemory = tt

own_put_confined : (allow : AllowList) (store : Store) (array value : Value) (at : ℤ) (of : Option Ty) → IsConfined allow (access.element_put_as store array value at of)
own_put_confined allow store array value at None = tt
own_put_confined allow store array value at (Some elem) = element_put_confined allow store elem array at (access.cast_to store.objects value elem)

written_confined : (allow : AllowList) (store : Store) (receiver index value : Value) (found : Option IndexAccess) → IndexConfined allow found → IsConfined allow (access.index_written_by store receiver index value found)
written_confined allow store receiver index value None h = tt
written_confined allow store receiver index value (Some (by_index.Key number)) h = built_confined allow store number (no_index Write store.objects receiver) _ (λ is. (h.allowed, is))
written_confined allow store receiver index value (Some (by_index.Item number)) h =
    built_confined allow store number (no_index Write store.objects receiver) _ (λ is. index_cast_confined allow store (access.index_cast store.objects index) (access.item_written store number receiver value) (λ at. (h.allowed, is)))
written_confined allow store receiver index value (Some by_index.Element) h =
    index_cast_confined allow store (access.index_cast store.objects index) (access.own_element_written store receiver value)
    (λ at. own_put_confined allow store receiver value at (access.own_type store.objects receiver))

object_index : (purpose : Purpose) (allow : AllowList) (found : Option Object) → IndexConfined allow (asked (at_object purpose allow) None found)
object_index purpose allow None = tt
object_index purpose allow (Some object) = index_confined purpose allow object

value_index : (purpose : Purpose) (allow : AllowList) (objects : List Object) (receiver : Value) → IndexConfined allow (index_access purpose allow objects receiver)
value_index purpose allow objects (v.Ref id) = object_index purpose allow (slice_get objects id)
value_index purpose allow objects value = tt

pub index_read_confined : (allow : AllowList) (store : Store) (receiver index : Value) → IsConfined allow (access.index_read allow store receiver index)
unfolding access.index_read
index_read_confined allow store receiver index = read_confined allow store receiver index (index_access Read allow store.objects receiver) (value_index Read allow store.objects receiver)

pub index_written_confined : (allow : AllowList) (store : Store) (receiver index value : Value) → IsConfined allow (access.index_written allow store receiver index value)
unfolding access.index_written
index_written_confined allow store receiver index value =
    written_confined allow store receiver index value (index_access Write allow store.objects receiver) (value_index Write allow store.objects receiver)

-- ---- names

beyond_confined : (allow : AllowList) (store : Store) (receiver : Value) (name : List ℕ) → IsConfined allow (access.item_beyond store receiver name)
beyond_confined allow store (v.Ref id) name = tt
beyond_confined allow store value name = tt

item_at_confined : (allow : AllowList) (store : Store) (number : ℕ) (receiver : Value) (name : List ℕ) (place : Place) → flag allow.members number ≡ true → is_built number ≡ true
    → IsConfined allow (access.item_read_at store number receiver name place)
item_at_confined allow store number receiver name (At at) h k = (h, k)
item_at_confined allow store number receiver name Beyond h k = beyond_confined allow store receiver name

named_confined : (allow : AllowList) (store : Store) (receiver : Value) (name : List ℕ) (found : Option NameAccess) → NameConfined allow found → IsConfined allow (access.name_read_by store receiver name found)
named_confined allow store receiver name None h = tt
named_confined allow store receiver name (Some (by_name.Key number)) h = built_confined allow store number (no_accessor Read store.objects receiver name) _ (λ is. (h.allowed, is))
named_confined allow store receiver name (Some (by_name.Item number place)) h = built_confined allow store number (no_accessor Read store.objects receiver name) _ (λ is. item_at_confined allow store number receiver name place h.allowed is)
named_confined allow store receiver name (Some (by_name.Accessor number)) h = built_confined allow store number (no_accessor Read store.objects receiver name) _ (λ is. (h.allowed, is))
named_confined allow store receiver name (Some by_name.Length) h = tt

item_put_confined : (allow : AllowList) (store : Store) (number : ℕ) (receiver : Value) (name : List ℕ) (value : Value) (place : Place) → flag allow.members number ≡ true → is_built number ≡ true
    → IsConfined allow (access.item_written_at store number receiver name value place)
item_put_confined allow store number receiver name value (At at) h k = (h, k)
item_put_confined allow store number receiver name value Beyond h k = beyond_confined allow store receiver name

property_put_confined : (allow : AllowList) (store : Store) (number : ℕ) (receiver : Value) (told : Outcome) → flag allow.members number ≡ true → is_built number ≡ true
    → IsConfined allow (access.property_put store number receiver told)
property_put_confined allow store number receiver (outcome.Gives value) h k = (h, k)
property_put_confined allow store number receiver (outcome.Makes text) h k = tt
property_put_confined allow store number receiver (outcome.Throws raised message) h k = tt
property_put_confined allow store number receiver outcome.NoMemory h k = tt

property_written_confined : (allow : AllowList) (store : Store) (number : ℕ) (receiver value : Value) (params : List Ty) → flag allow.members number ≡ true → is_built number ≡ true
    → IsConfined allow (access.property_written store number receiver value params)
property_written_confined allow store number receiver value [] h k = (h, k)
property_written_confined allow store number receiver value (of ∷ ofs) h k = property_put_confined allow store number receiver (access.cast_to store.objects value of) h k

put_named_confined : (allow : AllowList) (store : Store) (receiver : Value) (name : List ℕ) (value : Value) (found : Option NameAccess) → NameConfined allow found
    → IsConfined allow (access.name_written_by allow store receiver name value found)
put_named_confined allow store receiver name value None h = tt
put_named_confined allow store receiver name value (Some (by_name.Key number)) h = built_confined allow store number (no_accessor Write store.objects receiver name) _ (λ is. (h.allowed, is))
put_named_confined allow store receiver name value (Some (by_name.Item number place)) h = built_confined allow store number (no_accessor Write store.objects receiver name) _ (λ is. item_put_confined allow store number receiver name value place h.allowed is)
put_named_confined allow store receiver name value (Some (by_name.Accessor number)) h =
    built_confined allow store number (no_accessor Write store.objects receiver name) _ (λ is. property_written_confined allow store number receiver value (member_in allow number).params h.allowed is)
put_named_confined allow store receiver name value (Some by_name.Length) h = tt

object_name : (purpose : Purpose) (allow : AllowList) (name : List ℕ) (found : Option Object) → NameConfined allow (asked (in_object purpose allow name) None found)
object_name purpose allow name None = tt
object_name purpose allow name (Some object) = object_confined purpose allow name object

pub value_name : (purpose : Purpose) (allow : AllowList) (objects : List Object) (receiver : Value) (name : List ℕ) → NameConfined allow (name_access purpose allow objects receiver name)
value_name purpose allow objects (v.Ref id) name = object_name purpose allow name (slice_get objects id)
value_name purpose allow objects value name = property_confined purpose allow name (class_of objects value)

pub name_read_confined : (allow : AllowList) (store : Store) (receiver : Value) (name : List ℕ) → IsConfined allow (access.name_read allow store receiver name)
unfolding access.name_read
name_read_confined allow store receiver name = named_confined allow store receiver name (name_access Read allow store.objects receiver name) (value_name Read allow store.objects receiver name)

pub name_written_confined : (allow : AllowList) (store : Store) (receiver : Value) (name : List ℕ) (value : Value) → IsConfined allow (access.name_written allow store receiver name value)
unfolding access.name_written
name_written_confined allow store receiver name value =
    put_named_confined allow store receiver name value (name_access Write allow store.objects receiver name) (value_name Write allow store.objects receiver name)

-- ---- calls

calls_confined : (allow : AllowList) (store : Store) (number : ℕ) (casts : Casts) → flag allow.members number ≡ true → is_built number ≡ true → IsConfined allow (access.calls_with store number casts)
calls_confined allow store number (All values) h k = (h, k)
calls_confined allow store number (Ended told) h k = tt

called_confined : (allow : AllowList) (store : Store) (receiver : Value) (name : List ℕ) (arguments : List Value) (found : Option Callee) → CalleeListed allow found
    → IsConfined allow (access.called_by allow store receiver name arguments found)
called_confined allow store receiver name arguments None h = tt
called_confined allow store receiver name arguments (Some (Iface number)) h = tt
called_confined allow store receiver name arguments (Some (Member number)) h =
    built_confined allow store number (no_method store.objects receiver name (length arguments)) _ (λ is. calls_confined allow store number (access.casts_from store.objects (member_in allow number).params 1 (receiver ∷ arguments)) h is)

either_listed : (allow : AllowList) (class : ℕ) (name : List ℕ) (arity : ℕ) (method found : Option ℕ) → instance_member allow class name arity ≡ found → CalleeListed allow (method_or method found)
either_listed allow class name arity (Some method) found e = tt
either_listed allow class name arity None None e = tt
either_listed allow class name arity None (Some number) e = (is_member allow class name arity number e).member.allowed

pub target_listed : (allow : AllowList) (class : ℕ) (name : List ℕ) (arity : ℕ) → CalleeListed allow (target_of allow class name arity)
unfolding target_of
target_listed allow class name arity = either_listed allow class name arity (method_called class name arity) (instance_member allow class name arity) refl

pub class_listed : (allow : AllowList) (name : List ℕ) (arity : ℕ) (class : Option ℕ) → CalleeListed allow (access.target_for allow name arity class)
class_listed allow name arity None = tt
class_listed allow name arity (Some class) = target_listed allow class name arity

pub method_called_confined : (allow : AllowList) (store : Store) (receiver : Value) (name : List ℕ) (arguments : List Value) → IsConfined allow (access.method_called allow store receiver name arguments)
unfolding access.method_called
method_called_confined allow store receiver name arguments =
    called_confined allow store receiver name arguments (access.target_for allow name (length arguments) (class_of store.objects receiver)) (class_listed allow name (length arguments) (class_of store.objects receiver))

-- what is confined is of the list
pub name_listed : (allow : AllowList) (found : Option NameAccess) → NameConfined allow found → NameListed allow found
name_listed allow None h = tt
name_listed allow (Some (by_name.Key number)) h = tt
name_listed allow (Some (by_name.Item number place)) h = tt
name_listed allow (Some (by_name.Accessor number)) h = h.allowed
name_listed allow (Some by_name.Length) h = tt
