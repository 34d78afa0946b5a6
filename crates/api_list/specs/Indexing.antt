-- Indexes in brackets, of lists and of arrays: a negative one counts from the end. A place that is out of range is refused by the index
-- that was counted; of a frozen list no item is written, whatever the place.
use Rattle.std.specs.Prelude.{◌≡◌, ℕ, suc, ◌-◌, nat_lt, Option, Some, None, List, length, Result, Ok, Err, ℤ, pos, negsuc, slice_get, if◌then◌else◌}
use Rattle.object_values.specs.declared.object.Object.{Object}
use Rattle.object_values.specs.declared.object.Object.TheVariants as o
use Rattle.object_values.specs.declared.value.Value.{Value}
use Rattle.object_heap.specs.Fits.{Rules, ItemFits, kinds}
use Rattle.object_heap.specs.Parts.{items_of}
use Rattle.member_arguments.specs.Arguments.{int_at, object_at}
use Rattle.container_outcomes.specs.declared.outcome.Outcome.{Outcome}
use Rattle.container_outcomes.specs.declared.outcome.Outcome.TheVariants.{Gives, Sets}
use Rattle.container_outcomes.specs.Choices.{with_two, with_three}
use Rattle.container_outcomes.specs.Guards.{where_open}
use Rattle.container_outcomes.specs.Outcomes.{array_index_error, index_error, item_now, null_error}
use Rattle.api_list.specs.Lists.{place_of}

-- an index, counted from the front
abbrev pub counted : ℕ → ℤ → ℤ
counted count (pos at) = pos at
counted count (negsuc n) = if nat_lt n count then pos (count - suc n) else negsuc (n - count)

-- the place of an index among so many items, or the index that is refused
abbrev pub at_place : (ℤ → ℕ → Outcome) → ℕ → ℤ → Option ℕ → (ℕ → Outcome) → Outcome
at_place refused count at None next = refused at count
at_place refused count at (Some place) next = next place

abbrev pub at_index : (ℤ → ℕ → Outcome) → ℕ → ℤ → (ℕ → Outcome) → Outcome
at_index refused count at next = at_place refused count (counted count at) (place_of count (counted count at)) next

-- what the code says of a place
abbrev pub Places : ℤ → Option ℕ → Result ℕ ℤ → Type 0
Places at None (Ok place) = ⊥
Places at None (Err index) = at ≡ index
Places at (Some found) (Ok place) = found ≡ place
Places at (Some found) (Err index) = ⊥

-- ---- lists and arrays

abbrev pub item_read : List Object → ℕ → ℕ → Outcome
item_read objects id place = Gives (item_now objects id place)

abbrev pub read_list : List Object → ℕ → ℤ → Outcome
read_list objects list at = at_index index_error (length (items_of objects list)) at (item_read objects list)

abbrev pub read_array : List Object → ℕ → ℤ → Outcome
read_array objects array at = at_index array_index_error (length (items_of objects array)) at (item_read objects array)

-- the item that stood there is the value
abbrev pub item_written : ℕ → Value → ℕ → Outcome
item_written id item place = Sets id place item

abbrev pub write_list : List Object → ℕ → ℤ → Value → Outcome
write_list objects list at item = where_open objects list (at_index index_error (length (items_of objects list)) at (item_written list item))

abbrev pub write_array : List Object → ℕ → ℤ → Value → Outcome
write_array objects array at item = at_index array_index_error (length (items_of objects array)) at (item_written array item)

-- ---- by what the receiver is; another kind of object counts as null

abbrev pub read_in : List Object → ℕ → ℤ → Option Object → Outcome
read_in objects id at (Some (o.List class items guard changes)) = read_list objects id at
read_in objects id at (Some (o.Array elem items)) = read_array objects id at
read_in objects id at found = null_error

abbrev pub write_in : List Object → ℕ → ℤ → Value → Option Object → Outcome
write_in objects id at item (Some (o.List class items guard changes)) = write_list objects id at item
write_in objects id at item (Some (o.Array elem items)) = write_array objects id at item
write_in objects id at item found = null_error

abbrev pub read_of : List Object → ℕ → ℤ → Outcome
read_of objects id at = read_in objects id at (slice_get objects id)

abbrev pub write_of : List Object → ℕ → ℤ → Value → Outcome
write_of objects id at item = write_in objects id at item (slice_get objects id)

abbrev pub read_index : List Object → List Value → Outcome
read_index objects arguments = with_two (read_of objects) (object_at arguments 0) (int_at arguments 1)

abbrev pub write_index : List Object → List Value → Outcome
write_index objects arguments = with_three (write_of objects) (object_at arguments 0) (int_at arguments 1) (slice_get arguments 2)

-- an item that is written fits the list or the array that it goes to
abbrev pub ItemTaken : Rules → List Object → Option ℕ → Option Value → Type 0
ItemTaken rules objects None item = Unit {0}
ItemTaken rules objects (Some id) None = Unit {0}
ItemTaken rules objects (Some id) (Some item) = ItemFits rules.typed (kinds objects) item (slice_get objects id)
