-- Deep equality: a walk over pairs of values, at most so many levels deep and with so many visits.
use Rattle.std.specs.Prelude.{◌≡◌, ◌≢◌, ℕ, zero, suc, ◌==◌, Bool, true, false, Option, Some, None, List, [], ◌∷◌, length, slice_get, is_some, if◌then◌else◌}
use Rattle.object_values.specs.declared.object.Object.{Object}
use Rattle.object_values.specs.declared.object.Object.TheVariants as o
use Rattle.object_values.specs.declared.object.Part.{Part}
use Rattle.object_values.specs.declared.object.Part.TheVariants as part
use Rattle.object_values.specs.declared.value.Value.{Value}
use Rattle.object_values.specs.declared.value.Value.TheVariants as v
use Rattle.object_values.specs.Values.{same_value}
use Rattle.object_values.specs.Pairs.{value_of}
use Rattle.object_heap.specs.Parts.{map_of, pairs_of}
use Rattle.value_walks.specs.declared.equality.Walked.{Walked}
use Rattle.value_walks.specs.declared.equality.Walked.TheVariants.{On, Deep, Large}

-- goes on where what was found is true
abbrev pub and_then : Walked → (ℕ → Walked) → Walked
and_then (On true visits) further = further visits
and_then (On false visits) further = On false visits
and_then Deep further = Deep
and_then Large further = Large

-- items are compared in order, by `equal`
abbrev pub items_equal : (Value → Value → ℕ → Walked) → List Value → List Value → ℕ → Walked
items_equal equal [] [] visits = On true visits
items_equal equal [] (b ∷ bs) visits = On false visits
items_equal equal (a ∷ as') [] visits = On false visits
items_equal equal (a ∷ as') (b ∷ bs) visits = and_then (equal a b visits) (items_equal equal as' bs)

-- lists, and arrays, are equal where they are as long and their items are
abbrev pub all_equal : (Value → Value → ℕ → Walked) → List Value → Option (List Value) → ℕ → Walked
all_equal equal left None visits = On false visits
all_equal equal left (Some right) visits = if length left == length right then items_equal equal left right visits else On false visits

-- a value, and the one that the other map has under the same key
abbrev pub found_equal : (Value → Value → ℕ → Walked) → Value → Option Value → ℕ → Walked
found_equal equal value None visits = On false visits
found_equal equal value (Some other) visits = equal value other visits

abbrev pub pairs_equal : (Value → Value → ℕ → Walked) → List (Value × Value) → List (Value × Value) → ℕ → Walked
pairs_equal equal [] right visits = On true visits
pairs_equal equal (pair ∷ pairs) right visits = and_then (found_equal equal pair.1 (value_of right pair.0) visits) (pairs_equal equal pairs right)

-- maps are equal where they have as many keys, and each key of the first has equal values in both
abbrev pub maps_equal : (Value → Value → ℕ → Walked) → List (Value × Value) → Option (List (Value × Value)) → ℕ → Walked
maps_equal equal left None visits = On false visits
maps_equal equal left (Some right) visits = if length left == length right then pairs_equal equal left right visits else On false visits

-- whether each key is one of the other's
abbrev pub has_keys : List (Value × Value) → List (Value × Value) → Bool
has_keys [] other = true
has_keys (pair ∷ pairs) other = if is_some (value_of other pair.0) then has_keys pairs other else false

-- sets, the keys of a map among them, are equal where they have as many keys and those of the first are the second's: keys are
-- looked up, and not visited
abbrev pub sets_equal : Option (List (Value × Value)) → Option (List (Value × Value)) → Bool
sets_equal (Some left) (Some right) = if length left == length right then has_keys left right else false
sets_equal (Some left) None = false
sets_equal None right = false

-- the value that the map of an entry has now under the entry's key; null where it has none
abbrev pub value_or : Option Value → Value → Value
value_or None other = other
value_or (Some value) other = value

abbrev pub value_now : List Object → ℕ → Value → Value
value_now objects map key = value_or (value_of (pairs_of objects map) key) v.Null

-- entries, each by its map and its key, are equal where their keys are, and then their values now
abbrev pub both_equal : (Value → Value → ℕ → Walked) → List Object → ℕ → Value → ℕ → Value → ℕ → Walked
both_equal equal objects map key other_map other_key visits =
    and_then (equal key other_key visits) (equal (value_now objects map key) (value_now objects other_map other_key))

abbrev pub entries_equal : (Value → Value → ℕ → Walked) → List Object → ℕ → Value → Option (ℕ × Value) → ℕ → Walked
entries_equal equal objects map key None visits = On false visits
entries_equal equal objects map key (Some other) visits = both_equal equal objects map key other.0 other.1 visits

-- what an object is compared with
abbrev pub list_in : Object → Option (List Value)
list_in (o.List class items guard changes) = Some items
list_in object = None

abbrev pub array_in : Object → Option (List Value)
array_in (o.Array elem items) = Some items
array_in object = None

abbrev pub map_in : Object → Option (List (Value × Value))
map_in (o.Map class pairs guard changes) = Some pairs
map_in object = None

abbrev pub entry_in : Object → Option (ℕ × Value)
entry_in (o.Entry map key) = Some (map, key)
entry_in object = None

-- the keys of a set, and of the view of a map's keys
abbrev pub keys_of_view : List Object → ℕ → Part → Option (List (Value × Value))
keys_of_view objects map part.Keys = map_of objects map
keys_of_view objects map part.Values = None
keys_of_view objects map part.Entries = None

abbrev pub keys_in : List Object → Object → Option (List (Value × Value))
keys_in objects (o.Set class items guard changes) = Some items
keys_in objects (o.View map part) = keys_of_view objects map part
keys_in objects object = None

-- two objects that are not one: those of different kinds are not equal, and neither are views of values or entries, iterators,
-- builders, function values and exceptions
abbrev pub objects_equal : (Value → Value → ℕ → Walked) → List Object → Object → Object → ℕ → Walked
objects_equal equal objects (o.List class items guard changes) other visits = all_equal equal items (list_in other) visits
objects_equal equal objects (o.Array elem items) other visits = all_equal equal items (array_in other) visits
objects_equal equal objects (o.Map class pairs guard changes) other visits = maps_equal equal pairs (map_in other) visits
objects_equal equal objects (o.Entry map key) other visits = entries_equal equal objects map key (entry_in other) visits
objects_equal equal objects object other visits = On (sets_equal (keys_in objects object) (keys_in objects other)) visits

abbrev pub contents_equal : (Value → Value → ℕ → Walked) → List Object → Option Object → Option Object → ℕ → Walked
contents_equal equal objects (Some object) (Some other) visits = objects_equal equal objects object other visits
contents_equal equal objects (Some object) None visits = On false visits
contents_equal equal objects None other visits = On false visits

-- one visit: the same object is equal to itself, others are compared by their contents, and other values by kind and content
abbrev pub visit : (Value → Value → ℕ → Walked) → List Object → Value → Value → ℕ → Walked
visit equal objects (v.Ref x) (v.Ref y) visits =
    if x == y then On true visits else contents_equal equal objects (slice_get objects x) (slice_get objects y) visits
visit equal objects a b visits = On (same_value a b) visits

abbrev pub with_visit : (ℕ → Walked) → ℕ → Walked
with_visit further zero = Large
with_visit further (suc visits) = further visits

-- a visit below the last level is Deep, before one that is above the budget is Large
abbrev pub equal_at : ℕ → List Object → Value → Value → ℕ → Walked
equal_at zero objects a b visits = Deep
equal_at (suc levels) objects a b visits = with_visit (visit (equal_at levels objects) objects a b) visits

-- deep equality: at most 100 levels, and so many visits
unfoldable pub equal_of : List Object → Value → Value → ℕ → Walked
equal_of objects a b visits = equal_at 100 objects a b visits

-- Deep equality of two entries, each by its map and its key, of which one is no object: the two are a visit at level 1, and their keys
-- and their values now are compared at level 2
unfoldable pub equal_entries_of : List Object → ℕ → Value → ℕ → Value → ℕ → Walked
equal_entries_of objects map key other_map other_key visits = with_visit (both_equal (equal_at 99 objects) objects map key other_map other_key) visits

-- so they are equal, or the walk stops, as with two entries that are objects
abbrev pub EntriesCompareAsObjects : Type 0
EntriesCompareAsObjects = (objects : List Object) (x y map : ℕ) (key : Value) (other_map : ℕ) (other_key : Value) (visits : ℕ) → x ≢ y
    → slice_get objects x ≡ Some (o.Entry map key) → slice_get objects y ≡ Some (o.Entry other_map other_key)
    → equal_of objects (v.Ref x) (v.Ref y) visits ≡ equal_entries_of objects map key other_map other_key visits
