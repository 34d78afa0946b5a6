-- Elements of arrays, read and written as of a type, and the lengths of arrays. A negative index counts from the end.
use Rattle.std.specs.Prelude.{◌≡◌, ℕ, Result, Ok, Err, List, Option, Some, length, slice_get, ℤ, if◌then◌else◌}
use Rattle.pl_types.specs.declared.ty.Ty.{Ty}
use Rattle.object_values.specs.declared.value.Value.{Value}
use Rattle.object_values.specs.declared.value.Value.TheVariants as v
use Rattle.object_values.specs.declared.object.Object.{Object}
use Rattle.object_values.specs.declared.object.Object.TheVariants as o
use Rattle.object_heap.specs.Fits.{has_type, kinds}
use Rattle.object_heap.specs.Store.{Store}
use Rattle.object_heap.specs.Effects.{Effect}
use Rattle.container_outcomes.specs.Equality.{value_or}
use Rattle.container_outcomes.specs.declared.outcome.Outcome.{Outcome}
use Rattle.container_outcomes.specs.declared.outcome.Outcome.TheVariants as outcome
use Rattle.container_outcomes.specs.Outcomes.{Tells, effect, array_index_error, null_error}
use Rattle.container_calls.specs.Indexing.{at_index}
use Rattle.container_calls.specs.Lists.{count_as_int}
use Rattle.container_ops.specs.Types.{goes_with, is_read_as, other_kind}

-- what is done at a place of an array, by an index
abbrev pub in_array : List Value → ℤ → (ℕ → Outcome) → Outcome
in_array items at next = at_index array_index_error (length items) at next

-- ---- reading

abbrev pub given_as_read : Ty → Value → Outcome
given_as_read of value = if is_read_as of value then outcome.Gives value else other_kind

abbrev pub item_read : Ty → List Value → ℕ → Outcome
item_read of items place = given_as_read of (value_or (slice_get items place) v.Null)

abbrev pub read_in : Ty → ℤ → Option Object → Outcome
read_in of at (Some (o.Array elem items)) = if goes_with of elem then in_array items at (item_read of items) else other_kind
read_in of at found = other_kind

abbrev pub read_at : List Object → Ty → Value → ℤ → Outcome
read_at objects of v.Null at = null_error
read_at objects of (v.Ref id) at = read_in of at (slice_get objects id)
read_at objects of value at = other_kind

-- `a[i]`
unfoldable pub element_read : Store → Ty → Value → ℤ → Effect
element_read store of array at = effect store (read_at store.objects of array at)

-- the same of an array whose type is found when the script runs: the element as it is
abbrev pub item_given : List Value → ℕ → Outcome
item_given items place = outcome.Gives (value_or (slice_get items place) v.Null)

abbrev pub given_in : ℤ → Option Object → Outcome
given_in at (Some (o.Array elem items)) = in_array items at (item_given items)
given_in at found = other_kind

abbrev pub given_at : List Object → Value → ℤ → Outcome
given_at objects v.Null at = null_error
given_at objects (v.Ref id) at = given_in at (slice_get objects id)
given_at objects value at = other_kind

unfoldable pub element_given : Store → Value → ℤ → Effect
element_given store array at = effect store (given_at store.objects array at)

-- ---- writing: an array takes values of its element type alone

abbrev pub item_written : ℕ → Value → ℕ → Outcome
item_written id item place = outcome.Sets id place item

abbrev pub written_if_typed : List Object → ℕ → Ty → List Value → ℤ → Value → Outcome
written_if_typed objects id elem items at item = if has_type (kinds objects) elem item then in_array items at (item_written id item) else other_kind

abbrev pub written_in : List Object → Ty → ℕ → ℤ → Value → Option Object → Outcome
written_in objects of id at item (Some (o.Array elem items)) = if goes_with of elem then written_if_typed objects id elem items at item else other_kind
written_in objects of id at item found = other_kind

abbrev pub written_at : List Object → Ty → Value → ℤ → Value → Outcome
written_at objects of v.Null at item = null_error
written_at objects of (v.Ref id) at item = written_in objects of id at item (slice_get objects id)
written_at objects of value at item = other_kind

-- the object and the place at which an item is written, or what is thrown
abbrev pub IsThrown : Outcome → Type 0
IsThrown (outcome.Throws raised message) = Unit {0}
IsThrown told = ⊥

abbrev pub Lands : Outcome → Value → Result (ℕ × ℕ) Outcome → Type 0
Lands told item (Ok place) = told ≡ outcome.Sets place.0 place.1 item
Lands told item (Err said) = IsThrown told × Tells told said

-- `a[i] = v`, which gives the element that stood there
unfoldable pub element_written : Store → Ty → Value → ℤ → Value → Effect
element_written store of array at item = effect store (written_at store.objects of array at item)

-- ---- `a.length`

abbrev pub length_in : Option Object → Outcome
length_in (Some (o.Array elem items)) = outcome.Gives (v.Int (count_as_int (length items)))
length_in found = other_kind

abbrev pub length_told : List Object → Value → Outcome
length_told objects v.Null = null_error
length_told objects (v.Ref id) = length_in (slice_get objects id)
length_told objects value = other_kind

unfoldable pub length_of : Store → Value → Effect
length_of store value = effect store (length_told store.objects value)
