-- A member that is found when a script runs, and is called, is built.
use Rattle.std.proofs.Common.{◌≡◌, ℕ, Bool, true, false, List, [], ◌∷◌, Option, Some, None, refl}
use Rattle.std.specs.Prelude.{ℤ, if◌then◌else◌}
use Rattle.pl_types.specs.declared.ty.Ty.{Ty}
use Rattle.allowlist.specs.Allow.{AllowList}
use Rattle.allowlist.specs.Index.{member_in}
use Rattle.object_values.specs.declared.value.Value.{Value}
use Rattle.object_values.specs.declared.value.Value.TheVariants as v
use Rattle.object_heap.specs.Store.{Store}
use Rattle.number_ops.specs.declared.outcome.Outcome.{Outcome}
use Rattle.number_ops.specs.declared.outcome.Outcome.TheVariants as outcome
use Rattle.source_meaning.specs.MemberCallsMembers.{is_built}
use Rattle.def_resolve.specs.declared.access.Place.{Place}
use Rattle.def_resolve.specs.declared.access.Place.TheVariants.{At, Beyond}
use Rattle.def_resolve.specs.declared.access.NameAccess.{NameAccess}
use Rattle.def_resolve.specs.declared.access.NameAccess.TheVariants as by_name
use Rattle.def_resolve.specs.declared.access.IndexAccess.{IndexAccess}
use Rattle.def_resolve.specs.declared.access.IndexAccess.TheVariants as by_index
use Rattle.def_resolve.specs.declared.callee.Callee.{Callee}
use Rattle.def_resolve.specs.declared.callee.Callee.TheVariants.{Member, Iface}
use Rattle.def_resolve.specs.Failures.{Failure, fails}
use Rattle.source_meaning.specs.Access.{Access, Calls, Acts, if_built, Casts, All, Ended, calls_with, index_given, with_index, index_cast, item_read, item_written, own_element, index_read_by, index_read, element_put, element_put_as, own_type, index_written_by, index_written, item_beyond, item_read_at, name_read_by, name_read, item_written_at, property_put, property_written, name_written_by, name_written, called_by, method_called}

abbrev pub IsOfBuilt : Access → Type 0
IsOfBuilt (Calls number arguments) = is_built number ≡ true
IsOfBuilt (Acts effect) = Unit {0}

where_built : (store : Store) (number : ℕ) (failure : Failure) (next : Access) → (is_built number ≡ true → IsOfBuilt next) → IsOfBuilt (if_built store number failure next)
where_built store number failure next h = either (is_built number) refl
  where
    either : (built : Bool) → is_built number ≡ built → IsOfBuilt (if built then next else Acts (fails store failure))
    either true is = h is
    either false is = tt

called_with : (store : Store) (number : ℕ) (casts : Casts) → is_built number ≡ true → IsOfBuilt (calls_with store number casts)
called_with store number (All values) b = b
called_with store number (Ended told) b = tt

given_index : (store : Store) (value : Value) (next : ℤ → Access) → ((at : ℤ) → IsOfBuilt (next at)) → IsOfBuilt (index_given store value next)
given_index store (v.Int at) next h = h at
given_index store value next h = tt

at_index : (store : Store) (told : Outcome) (next : ℤ → Access) → ((at : ℤ) → IsOfBuilt (next at)) → IsOfBuilt (with_index store told next)
at_index store (outcome.Gives value) next h = given_index store value next h
at_index store (outcome.Makes text) next h = tt
at_index store (outcome.Throws raised message) next h = tt
at_index store outcome.NoMemory next h = tt

-- ---- indexes

read_by : (store : Store) (receiver index : Value) (found : Option IndexAccess) → IsOfBuilt (index_read_by store receiver index found)
read_by store receiver index None = tt
read_by store receiver index (Some (by_index.Key number)) = where_built store number _ _ (λ b. b)
read_by store receiver index (Some (by_index.Item number)) = where_built store number _ _ (λ b. at_index store (index_cast store.objects index) (item_read store number receiver) (λ at. b))
read_by store receiver index (Some by_index.Element) = at_index store (index_cast store.objects index) (own_element store receiver) (λ at. tt {0})

pub index_read_built : (allow : AllowList) (store : Store) (receiver index : Value) → IsOfBuilt (index_read allow store receiver index)
unfolding index_read
index_read_built allow store receiver index = read_by store receiver index _

put_told : (store : Store) (elem : Ty) (array : Value) (at : ℤ) (told : Outcome) → IsOfBuilt (element_put store elem array at told)
put_told store elem array at (outcome.Gives value) = tt
put_told store elem array at (outcome.Makes text) = tt
put_told store elem array at (outcome.Throws raised message) = tt
put_told store elem array at outcome.NoMemory = tt

put_as : (store : Store) (array value : Value) (at : ℤ) (elem : Option Ty) → IsOfBuilt (element_put_as store array value at elem)
put_as store array value at None = tt
put_as store array value at (Some elem) = put_told store elem array at _

written_by : (store : Store) (receiver index value : Value) (found : Option IndexAccess) → IsOfBuilt (index_written_by store receiver index value found)
written_by store receiver index value None = tt
written_by store receiver index value (Some (by_index.Key number)) = where_built store number _ _ (λ b. b)
written_by store receiver index value (Some (by_index.Item number)) =
    where_built store number _ _ (λ b. at_index store (index_cast store.objects index) (item_written store number receiver value) (λ at. b))
written_by store receiver index value (Some by_index.Element) = at_index store _ _ (λ at. put_as store receiver value at (own_type store.objects receiver))

pub index_written_built : (allow : AllowList) (store : Store) (receiver index value : Value) → IsOfBuilt (index_written allow store receiver index value)
unfolding index_written
index_written_built allow store receiver index value = written_by store receiver index value _

-- ---- names

beyond : (store : Store) (receiver : Value) (name : List ℕ) → IsOfBuilt (item_beyond store receiver name)
beyond store (v.Ref id) name = tt
beyond store value name = tt

read_place : (store : Store) (number : ℕ) (receiver : Value) (name : List ℕ) (place : Place) → is_built number ≡ true → IsOfBuilt (item_read_at store number receiver name place)
read_place store number receiver name (At at) b = b
read_place store number receiver name Beyond b = beyond store receiver name

read_name_by : (store : Store) (receiver : Value) (name : List ℕ) (found : Option NameAccess) → IsOfBuilt (name_read_by store receiver name found)
read_name_by store receiver name None = tt
read_name_by store receiver name (Some (by_name.Key number)) = where_built store number _ _ (λ b. b)
read_name_by store receiver name (Some (by_name.Item number place)) = where_built store number _ _ (λ b. read_place store number receiver name place b)
read_name_by store receiver name (Some (by_name.Accessor number)) = where_built store number _ _ (λ b. b)
read_name_by store receiver name (Some by_name.Length) = tt

pub name_read_built : (allow : AllowList) (store : Store) (receiver : Value) (name : List ℕ) → IsOfBuilt (name_read allow store receiver name)
unfolding name_read
name_read_built allow store receiver name = read_name_by store receiver name _

written_place : (store : Store) (number : ℕ) (receiver : Value) (name : List ℕ) (value : Value) (place : Place) → is_built number ≡ true
    → IsOfBuilt (item_written_at store number receiver name value place)
written_place store number receiver name value (At at) b = b
written_place store number receiver name value Beyond b = beyond store receiver name

property_told : (store : Store) (number : ℕ) (receiver : Value) (told : Outcome) → is_built number ≡ true → IsOfBuilt (property_put store number receiver told)
property_told store number receiver (outcome.Gives value) b = b
property_told store number receiver (outcome.Makes text) b = tt
property_told store number receiver (outcome.Throws raised message) b = tt
property_told store number receiver outcome.NoMemory b = tt

property_of : (store : Store) (number : ℕ) (receiver value : Value) (ofs : List Ty) → is_built number ≡ true → IsOfBuilt (property_written store number receiver value ofs)
property_of store number receiver value [] b = b
property_of store number receiver value (of ∷ ofs) b = property_told store number receiver _ b

written_name_by : (allow : AllowList) (store : Store) (receiver : Value) (name : List ℕ) (value : Value) (found : Option NameAccess) → IsOfBuilt (name_written_by allow store receiver name value found)
written_name_by allow store receiver name value None = tt
written_name_by allow store receiver name value (Some (by_name.Key number)) = where_built store number _ _ (λ b. b)
written_name_by allow store receiver name value (Some (by_name.Item number place)) = where_built store number _ _ (λ b. written_place store number receiver name value place b)
written_name_by allow store receiver name value (Some (by_name.Accessor number)) = where_built store number _ _ (λ b. property_of store number receiver value (member_in allow number).params b)
written_name_by allow store receiver name value (Some by_name.Length) = tt

pub name_written_built : (allow : AllowList) (store : Store) (receiver : Value) (name : List ℕ) (value : Value) → IsOfBuilt (name_written allow store receiver name value)
unfolding name_written
name_written_built allow store receiver name value = written_name_by allow store receiver name value _

-- ---- calls

call_by : (allow : AllowList) (store : Store) (receiver : Value) (name : List ℕ) (arguments : List Value) (found : Option Callee) → IsOfBuilt (called_by allow store receiver name arguments found)
call_by allow store receiver name arguments None = tt
call_by allow store receiver name arguments (Some (Iface number)) = tt
call_by allow store receiver name arguments (Some (Member number)) = where_built store number _ _ (λ b. called_with store number _ b)

pub method_called_built : (allow : AllowList) (store : Store) (receiver : Value) (name : List ℕ) (arguments : List Value) → IsOfBuilt (method_called allow store receiver name arguments)
unfolding method_called
method_called_built allow store receiver name arguments = call_by allow store receiver name arguments _
