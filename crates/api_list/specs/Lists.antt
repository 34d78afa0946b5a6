-- The members of Collection and List, of lists. What changes a frozen list is refused before any other test.
use Rattle.std.specs.Prelude.{ℕ, ◌==◌, true, false, Option, Some, None, List, [], ◌∷◌, length, nat_le, nat_lt, ℤ, pos, negsuc, reverse, slice_get, if◌then◌else◌}
use Rattle.object_values.specs.declared.object.Guard.TheVariants as g
use Rattle.object_values.specs.declared.object.Object.{Object}
use Rattle.object_values.specs.declared.object.Object.TheVariants as o
use Rattle.object_values.specs.declared.value.Value.{Value}
use Rattle.object_values.specs.declared.value.Value.TheVariants as v
use Rattle.object_heap.specs.Objects.{changed}
use Rattle.object_heap.specs.Parts.{items_of}
use Rattle.member_arguments.specs.Arguments.{int_at}
use Rattle.container_outcomes.specs.declared.outcome.Outcome.{Outcome}
use Rattle.container_outcomes.specs.declared.outcome.Outcome.TheVariants.{Becomes, Gives, Inserts, Sets, SetsTwo, Cuts, Drops, Empties}
use Rattle.container_outcomes.specs.Choices.{with_one, with_two, with_three}
use Rattle.container_outcomes.specs.Comparing.{where_found}
use Rattle.container_outcomes.specs.Guards.{where_open}
use Rattle.container_outcomes.specs.Outcomes.{flag, index_error}
use Rattle.api_list.specs.Arguments.{list_at}
use Rattle.api_list.specs.Searching.{first_from, last_before}

-- a count of items as an int, at most the greatest one
abbrev pub count_as_int : ℕ → ℤ
count_as_int n = if nat_le n 2147483647 then pos n else pos 2147483647

-- a place at which there is an item, and one at which an item may be inserted
abbrev pub place_of : ℕ → ℤ → Option ℕ
place_of count (pos at) = if nat_lt at count then Some at else None
place_of count (negsuc n) = None

abbrev pub place_into : ℕ → ℤ → Option ℕ
place_into count (pos at) = if nat_le at count then Some at else None
place_into count (negsuc n) = None

abbrev pub at_place : ℕ → ℤ → Option ℕ → (ℕ → Outcome) → Outcome
at_place count at None next = index_error at count
at_place count at (Some place) next = next place

-- the item at a place
abbrev pub item_in : List Value → ℤ → Option Value
item_in items (pos at) = slice_get items at
item_in items (negsuc n) = None

abbrev pub item_given : List Value → ℤ → Option Value → Outcome
item_given items at None = index_error at (length items)
item_given items at (Some item) = Gives item

abbrev pub got : List Object → ℕ → ℤ → Outcome
got objects list at = item_given (items_of objects list) at (item_in (items_of objects list) at)

-- with an item written; the one that stood there is the value
abbrev pub written : List Object → ℕ → ℤ → Value → Outcome
written objects list at item = where_open objects list (at_place (length (items_of objects list)) at (place_of (length (items_of objects list)) at) (λ place. Sets list place item))

-- with an item at the end, and inserted at a place
abbrev pub added : List Object → ℕ → Value → Outcome
added objects list item = where_open objects list (Inserts list (length (items_of objects list)) item (v.Bool true))

abbrev pub inserted : List Object → ℕ → ℤ → Value → Outcome
inserted objects list at item = where_open objects list (at_place (length (items_of objects list)) at (place_into (length (items_of objects list)) at) (λ place. Inserts list place item v.Null))

-- without the item at a place, which is the value; and without the first that is equal to a value
abbrev pub cut_out : List Object → ℕ → ℤ → Outcome
cut_out objects list at = where_open objects list (at_place (length (items_of objects list)) at (place_of (length (items_of objects list)) at) (Cuts list))

abbrev pub search : List Object → ℕ → Value → (ℕ → Outcome) → Outcome → Outcome
search objects list value found none = where_found (first_from objects value 0 (items_of objects list)) found none

abbrev pub dropped_found : List Object → ℕ → Value → Outcome
dropped_found objects list value = search objects list value (Drops list) (flag false)

abbrev pub dropped : List Object → ℕ → Value → Outcome
dropped objects list value = where_open objects list (dropped_found objects list value)

abbrev pub held : List Object → ℕ → Value → Outcome
held objects list value = search objects list value (λ at. flag true) (flag false)

-- the place of the first that is equal to a value, or -1
abbrev pub place_given : ℕ → Outcome
place_given at = Gives (v.Int (count_as_int at))

abbrev pub place_found : List Object → ℕ → Value → Outcome
place_found objects list value = search objects list value place_given (Gives (v.Int (negsuc 0)))

-- the place of the last that is equal to a value, or -1
abbrev pub last_place_found : List Object → ℕ → Value → Outcome
last_place_found objects list value = where_found (last_before objects value (items_of objects list) (length (items_of objects list))) place_given (Gives (v.Int (negsuc 0)))

-- with the items in the opposite order, which is no change of the count
abbrev pub list_reversed : ℕ → Option Object → Outcome
list_reversed id (Some (o.List class items guard changes)) = Becomes id (o.List class (reverse items) g.Open changes) v.Null
list_reversed id found = Gives v.Null

abbrev pub reversed : List Object → ℕ → Outcome
reversed objects list = where_open objects list (list_reversed list (slice_get objects list))

-- with the items of two places in each other's; the first place is tested first
abbrev pub items_swapped : ℕ → ℕ → ℕ → Option Value → Option Value → Outcome
items_swapped list at other_at (Some item) (Some other) = SetsTwo list at other other_at item
items_swapped list at other_at item other = Gives v.Null

abbrev pub places_swapped : List Object → ℕ → ℕ → ℕ → Outcome
places_swapped objects list at other_at = items_swapped list at other_at (slice_get (items_of objects list) at) (slice_get (items_of objects list) other_at)

abbrev pub swapped_with : List Object → ℕ → ℤ → ℕ → Outcome
swapped_with objects list other_at at = at_place (length (items_of objects list)) other_at (place_of (length (items_of objects list)) other_at) (places_swapped objects list at)

abbrev pub swapped : List Object → ℕ → ℤ → ℤ → Outcome
swapped objects list at other_at = where_open objects list (at_place (length (items_of objects list)) at (place_of (length (items_of objects list)) at) (swapped_with objects list other_at))

abbrev pub size_given : List Object → ℕ → Outcome
size_given objects list = Gives (v.Int (count_as_int (length (items_of objects list))))

abbrev pub emptiness_given : List Object → ℕ → Outcome
emptiness_given objects list = flag (length (items_of objects list) == 0)

-- with no items: one change where there were some
abbrev pub empty_list : ℕ → ℕ → ℕ → Outcome
empty_list id class changes = Empties id (o.List class [] g.Open (changed changes))

abbrev pub list_emptied : ℕ → ℕ → List Value → ℕ → Outcome
list_emptied id class [] changes = Gives v.Null
list_emptied id class (item ∷ items) changes = empty_list id class changes

abbrev pub emptied : ℕ → Option Object → Outcome
emptied id (Some (o.List class items guard changes)) = list_emptied id class items changes
emptied id found = Gives v.Null

abbrev pub cleared : List Object → ℕ → Outcome
cleared objects list = where_open objects list (emptied list (slice_get objects list))

-- ---- the members, by their names

abbrev pub add : List Object → List Value → Outcome
add objects arguments = with_two (added objects) (list_at objects arguments 0) (slice_get arguments 1)

abbrev pub clear : List Object → List Value → Outcome
clear objects arguments = with_one (cleared objects) (list_at objects arguments 0)

abbrev pub contains : List Object → List Value → Outcome
contains objects arguments = with_two (held objects) (list_at objects arguments 0) (slice_get arguments 1)

abbrev pub is_empty : List Object → List Value → Outcome
is_empty objects arguments = with_one (emptiness_given objects) (list_at objects arguments 0)

abbrev pub remove : List Object → List Value → Outcome
remove objects arguments = with_two (dropped objects) (list_at objects arguments 0) (slice_get arguments 1)

-- size, and getLength
abbrev pub size : List Object → List Value → Outcome
size objects arguments = with_one (size_given objects) (list_at objects arguments 0)

abbrev pub add_at : List Object → List Value → Outcome
add_at objects arguments = with_three (inserted objects) (list_at objects arguments 0) (int_at arguments 1) (slice_get arguments 2)

abbrev pub get : List Object → List Value → Outcome
get objects arguments = with_two (got objects) (list_at objects arguments 0) (int_at arguments 1)

abbrev pub index_of : List Object → List Value → Outcome
index_of objects arguments = with_two (place_found objects) (list_at objects arguments 0) (slice_get arguments 1)

abbrev pub remove_at : List Object → List Value → Outcome
remove_at objects arguments = with_two (cut_out objects) (list_at objects arguments 0) (int_at arguments 1)

abbrev pub set : List Object → List Value → Outcome
set objects arguments = with_three (written objects) (list_at objects arguments 0) (int_at arguments 1) (slice_get arguments 2)

abbrev pub last_index_of : List Object → List Value → Outcome
last_index_of objects arguments = with_two (last_place_found objects) (list_at objects arguments 0) (slice_get arguments 1)

abbrev pub reverse_all : List Object → List Value → Outcome
reverse_all objects arguments = with_one (reversed objects) (list_at objects arguments 0)

abbrev pub swap : List Object → List Value → Outcome
swap objects arguments = with_three (swapped objects) (list_at objects arguments 0) (int_at arguments 1) (int_at arguments 2)
