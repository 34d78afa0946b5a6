-- What an index in brackets, a name behind a dot and a call come to on a value whose class is found when the script runs, before it is
-- paid. The order is: the receiver against null, what is meant, the casts of the arguments from the left, and then the call. A member
-- that is not built is not found.
use Rattle.std.specs.Prelude.{ℕ, ◌-◌, suc, nat_lt, Bool, false, Option, Some, None, List, [], ◌∷◌, length, slice_get, slice_set, ℤ, pos, negsuc, if◌then◌else◌}
use Rattle.pl_units.specs.Utf16.{units}
use Rattle.pl_types.specs.declared.primitive.Primitive.TheVariants as prim
use Rattle.pl_types.specs.declared.ty.Ty.{Ty}
use Rattle.pl_types.specs.declared.ty.Ty.TheVariants as t
use Rattle.allowlist.specs.Allow.{AllowList}
use Rattle.allowlist.specs.Index.{member_in}
use Rattle.object_values.specs.declared.object.Object.{Object}
use Rattle.object_values.specs.declared.value.Value.{Value}
use Rattle.object_values.specs.declared.value.Value.TheVariants as v
use Rattle.object_heap.specs.Effects.{Effect}
use Rattle.object_heap.specs.Parts.{elem_of, size_of}
use Rattle.object_heap.specs.Store.{Store}
use Rattle.number_ops.specs.declared.outcome.Outcome.{Outcome}
use Rattle.number_ops.specs.declared.outcome.Outcome.TheVariants as outcome
use Rattle.number_ops.specs.Casts.{cast_at_run_time}
use Rattle.number_ops.specs.Outcomes.{effect}
use Rattle.container_ops.specs.Lists.{count_as_int}
use Rattle.container_ops.specs.Types.{on_other_kind}
use Rattle.container_ops.specs.Elements.{element_given, element_written, length_of}
use Rattle.member_calls.specs.Members.{is_built}
use Rattle.def_resolve.specs.declared.access.Purpose.TheVariants.{Read, Write}
use Rattle.def_resolve.specs.declared.access.Place.{Place}
use Rattle.def_resolve.specs.declared.access.Place.TheVariants.{At, Beyond}
use Rattle.def_resolve.specs.declared.access.NameAccess.{NameAccess}
use Rattle.def_resolve.specs.declared.access.NameAccess.TheVariants as by_name
use Rattle.def_resolve.specs.declared.access.IndexAccess.{IndexAccess}
use Rattle.def_resolve.specs.declared.access.IndexAccess.TheVariants as by_index
use Rattle.def_resolve.specs.declared.callee.Callee.{Callee}
use Rattle.def_resolve.specs.declared.callee.Callee.TheVariants.{Member, Iface}
use Rattle.def_resolve.specs.Accesses.{index_access, name_access}
use Rattle.def_resolve.specs.Failures.{Failure, fails, no_index, no_accessor, no_method, beyond_list}
use Rattle.def_resolve.specs.Resolution.{class_of, target_of}

-- a call of a member, with the receiver first; or what the language does itself, and what is thrown
pub data Access : Type 0 where
  Calls : (number : ℕ) (arguments : List Value) → Access
  Acts : (effect : Effect) → Access

-- goes on with a member that is built
abbrev pub if_built : Store → ℕ → Failure → Access → Access
if_built store number failure next = if is_built number then next else Acts (fails store failure)

-- ---- casts of arguments

-- values of which arguments were cast; or what the first comes to whose cast gives no value
pub data Casts : Type 0 where
  All : (values : List Value) → Casts
  Ended : (told : Outcome) → Casts

abbrev pub after_cast : Outcome → (Value → Casts) → Casts
after_cast (outcome.Gives value) next = next value
after_cast (outcome.Makes text) next = Ended (outcome.Makes text)
after_cast (outcome.Throws raised message) next = Ended (outcome.Throws raised message)
after_cast outcome.NoMemory next = Ended outcome.NoMemory

-- as in a cast that is not written
abbrev pub cast_to : List Object → Value → Ty → Outcome
cast_to objects value of = cast_at_run_time objects value of false

abbrev pub cast_there : List Object → Ty → List Value → ℕ → Option Value → (List Value → Casts) → Casts
cast_there objects of values at None next = next values
cast_there objects of values at (Some value) next = after_cast (cast_to objects value of) (λ cast. next (slice_set values at cast))

-- the values from a place on, each cast to the type of its parameter, from the left
abbrev pub casts_from : List Object → List Ty → ℕ → List Value → Casts
casts_from objects [] at values = All values
casts_from objects (of ∷ ofs) at values = cast_there objects of values at (slice_get values at) (λ cast. casts_from objects ofs (suc at) cast)

abbrev pub calls_with : Store → ℕ → Casts → Access
calls_with store number (All values) = Calls number values
calls_with store number (Ended told) = Acts (effect store told)

-- an index of a list or an array, cast to int
abbrev pub index_given : Store → Value → (ℤ → Access) → Access
index_given store (v.Int at) next = next at
index_given store other next = Acts (on_other_kind store)

abbrev pub with_index : Store → Outcome → (ℤ → Access) → Access
with_index store (outcome.Gives value) next = index_given store value next
with_index store (outcome.Makes text) next = Acts (effect store (outcome.Makes text))
with_index store (outcome.Throws raised message) next = Acts (effect store (outcome.Throws raised message))
with_index store outcome.NoMemory next = Acts (effect store outcome.NoMemory)

abbrev pub index_cast : List Object → Value → Outcome
index_cast objects index = cast_to objects index (t.Prim prim.Int)

-- An item's place as `get` and `set` take it: an index, counted from the front. One that is before the front stays negative.
abbrev pub size_in : List Object → Value → ℕ
size_in objects (v.Ref id) = size_of objects id
size_in objects value = 0

abbrev pub from_front : ℕ → ℤ → ℤ
from_front count (pos at) = pos at
from_front count (negsuc n) = if nat_lt n count then count_as_int (count - suc n) else negsuc (n - count)

abbrev pub place_in : List Object → Value → ℤ → Value
place_in objects receiver at = v.Int (from_front (size_in objects receiver) at)

-- ---- `x[i]`

abbrev pub item_read : Store → ℕ → Value → ℤ → Access
item_read store number receiver at = Calls number (receiver ∷ place_in store.objects receiver at ∷ [])

-- an element of an array is given as it is
abbrev pub own_element : Store → Value → ℤ → Access
own_element store array at = Acts (element_given store array at)

abbrev pub index_read_by : Store → Value → Value → Option IndexAccess → Access
index_read_by store receiver index None = Acts (fails store (no_index Read store.objects receiver))
index_read_by store receiver index (Some (by_index.Key number)) = if_built store number (no_index Read store.objects receiver) (Calls number (receiver ∷ index ∷ []))
index_read_by store receiver index (Some (by_index.Item number)) =
    if_built store number (no_index Read store.objects receiver) (with_index store (index_cast store.objects index) (item_read store number receiver))
index_read_by store receiver index (Some by_index.Element) = with_index store (index_cast store.objects index) (own_element store receiver)

unfoldable pub index_read : AllowList → Store → Value → Value → Access
index_read allow store receiver index = index_read_by store receiver index (index_access Read allow store.objects receiver)

-- ---- `x[i] = v`: of an array the value is cast to the element type before the place is looked at

abbrev pub item_written : Store → ℕ → Value → Value → ℤ → Access
item_written store number receiver value at = Calls number (receiver ∷ place_in store.objects receiver at ∷ value ∷ [])

abbrev pub own_type : List Object → Value → Option Ty
own_type objects (v.Ref id) = elem_of objects id
own_type objects value = None

abbrev pub element_put : Store → Ty → Value → ℤ → Outcome → Access
element_put store elem array at (outcome.Gives value) = Acts (element_written store elem array at value)
element_put store elem array at (outcome.Makes text) = Acts (effect store (outcome.Makes text))
element_put store elem array at (outcome.Throws raised message) = Acts (effect store (outcome.Throws raised message))
element_put store elem array at outcome.NoMemory = Acts (effect store outcome.NoMemory)

abbrev pub element_put_as : Store → Value → Value → ℤ → Option Ty → Access
element_put_as store array value at None = Acts (on_other_kind store)
element_put_as store array value at (Some elem) = element_put store elem array at (cast_to store.objects value elem)

abbrev pub own_element_written : Store → Value → Value → ℤ → Access
own_element_written store array value at = element_put_as store array value at (own_type store.objects array)

abbrev pub index_written_by : Store → Value → Value → Value → Option IndexAccess → Access
index_written_by store receiver index value None = Acts (fails store (no_index Write store.objects receiver))
index_written_by store receiver index value (Some (by_index.Key number)) =
    if_built store number (no_index Write store.objects receiver) (Calls number (receiver ∷ index ∷ value ∷ []))
index_written_by store receiver index value (Some (by_index.Item number)) =
    if_built store number (no_index Write store.objects receiver) (with_index store (index_cast store.objects index) (item_written store number receiver value))
index_written_by store receiver index value (Some by_index.Element) = with_index store (index_cast store.objects index) (own_element_written store receiver value)

unfoldable pub index_written : AllowList → Store → Value → Value → Value → Access
index_written allow store receiver index value = index_written_by store receiver index value (index_access Write allow store.objects receiver)

-- ---- `x.name`

-- an item of a list by a place that is a name
abbrev pub item_beyond : Store → Value → List ℕ → Access
item_beyond store (v.Ref id) name = Acts (fails store (beyond_list store.objects id name))
item_beyond store value name = Acts (on_other_kind store)

abbrev pub item_read_at : Store → ℕ → Value → List ℕ → Place → Access
item_read_at store number receiver name (At at) = Calls number (receiver ∷ v.Int at ∷ [])
item_read_at store number receiver name Beyond = item_beyond store receiver name

abbrev pub name_read_by : Store → Value → List ℕ → Option NameAccess → Access
name_read_by store receiver name None = Acts (fails store (no_accessor Read store.objects receiver name))
name_read_by store receiver name (Some (by_name.Key number)) =
    if_built store number (no_accessor Read store.objects receiver name) (Calls number (receiver ∷ v.Str (units name) ∷ []))
name_read_by store receiver name (Some (by_name.Item number place)) =
    if_built store number (no_accessor Read store.objects receiver name) (item_read_at store number receiver name place)
name_read_by store receiver name (Some (by_name.Accessor number)) =
    if_built store number (no_accessor Read store.objects receiver name) (Calls number (receiver ∷ []))
name_read_by store receiver name (Some by_name.Length) = Acts (length_of store receiver)

unfoldable pub name_read : AllowList → Store → Value → List ℕ → Access
name_read allow store receiver name = name_read_by store receiver name (name_access Read allow store.objects receiver name)

-- ---- `x.name = v`

abbrev pub item_written_at : Store → ℕ → Value → List ℕ → Value → Place → Access
item_written_at store number receiver name value (At at) = Calls number (receiver ∷ v.Int at ∷ value ∷ [])
item_written_at store number receiver name value Beyond = item_beyond store receiver name

-- by a setter, whose parameter's type the value is cast to
abbrev pub property_put : Store → ℕ → Value → Outcome → Access
property_put store number receiver (outcome.Gives value) = Calls number (receiver ∷ value ∷ [])
property_put store number receiver (outcome.Makes text) = Acts (effect store (outcome.Makes text))
property_put store number receiver (outcome.Throws raised message) = Acts (effect store (outcome.Throws raised message))
property_put store number receiver outcome.NoMemory = Acts (effect store outcome.NoMemory)

abbrev pub property_written : Store → ℕ → Value → Value → List Ty → Access
property_written store number receiver value [] = Calls number (receiver ∷ value ∷ [])
property_written store number receiver value (of ∷ ofs) = property_put store number receiver (cast_to store.objects value of)

-- under a key of a map, and at a place of a list
abbrev pub key_put : Store → ℕ → Value → List ℕ → Value → Access
key_put store number receiver name value = if_built store number (no_accessor Write store.objects receiver name) (Calls number (receiver ∷ v.Str (units name) ∷ value ∷ []))

abbrev pub place_put : Store → ℕ → Value → List ℕ → Value → Place → Access
place_put store number receiver name value place = if_built store number (no_accessor Write store.objects receiver name) (item_written_at store number receiver name value place)

abbrev pub name_written_by : AllowList → Store → Value → List ℕ → Value → Option NameAccess → Access
name_written_by allow store receiver name value None = Acts (fails store (no_accessor Write store.objects receiver name))
name_written_by allow store receiver name value (Some (by_name.Key number)) = key_put store number receiver name value
name_written_by allow store receiver name value (Some (by_name.Item number place)) = place_put store number receiver name value place
name_written_by allow store receiver name value (Some (by_name.Accessor number)) =
    if_built store number (no_accessor Write store.objects receiver name) (property_written store number receiver value (member_in allow number).params)
name_written_by allow store receiver name value (Some by_name.Length) = Acts (fails store (no_accessor Write store.objects receiver name))

unfoldable pub name_written : AllowList → Store → Value → List ℕ → Value → Access
name_written allow store receiver name value = name_written_by allow store receiver name value (name_access Write allow store.objects receiver name)

-- ---- `x.f(a)`. The method of a function value is not found, of which scripts have none yet.

abbrev pub called_by : AllowList → Store → Value → List ℕ → List Value → Option Callee → Access
called_by allow store receiver name arguments None = Acts (fails store (no_method store.objects receiver name (length arguments)))
called_by allow store receiver name arguments (Some (Iface number)) = Acts (fails store (no_method store.objects receiver name (length arguments)))
called_by allow store receiver name arguments (Some (Member number)) =
    if_built store number (no_method store.objects receiver name (length arguments)) (calls_with store number (casts_from store.objects (member_in allow number).params 1 (receiver ∷ arguments)))

abbrev pub target_for : AllowList → List ℕ → ℕ → Option ℕ → Option Callee
target_for allow name arity None = None
target_for allow name arity (Some class) = target_of allow class name arity

unfoldable pub method_called : AllowList → Store → Value → List ℕ → List Value → Access
method_called allow store receiver name arguments =
    called_by allow store receiver name arguments (target_for allow name (length arguments) (class_of store.objects receiver))
