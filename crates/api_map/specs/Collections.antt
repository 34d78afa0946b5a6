-- The members of Collection, of sets and of views of maps. A view holds no pairs of its own: what it shows is what its map has now,
-- and what is taken out of it is taken out of its map.
use Rattle.std.specs.Prelude.{ℕ, true, false, Option, Some, None, List, slice_get, if◌then◌else◌}
use Rattle.object_values.specs.declared.object.Object.{Object}
use Rattle.object_values.specs.declared.object.Part.TheVariants as part
use Rattle.object_values.specs.declared.value.Value.{Value}
use Rattle.object_heap.specs.Parts.{guard_of, pairs_of}
use Rattle.api_map.specs.declared.arguments.Keyed.{Keyed}
use Rattle.api_map.specs.declared.arguments.Keyed.TheVariants.{Set, View}
use Rattle.container_outcomes.specs.declared.outcome.Outcome.{Outcome}
use Rattle.container_outcomes.specs.declared.outcome.Outcome.TheVariants.{Adds, CutsPair, DropsKey, DropsEntry}
use Rattle.api_map.specs.Arguments.{entry_of, holder_of, keyed_at, with_key}
use Rattle.container_outcomes.specs.Choices.{with_one, with_two}
use Rattle.container_outcomes.specs.Guards.{is_open}
use Rattle.api_map.specs.Maps.{cleared, emptiness_given, key_found, size_given, value_found}
use Rattle.container_outcomes.specs.Outcomes.{flag, has_key, unsupported}
use Rattle.api_map.specs.Searching.{first_from}
use Rattle.container_outcomes.specs.Comparing.{entry_comparison, where_equal, where_found}
use Rattle.container_outcomes.specs.declared.comparing.Compared.{Compared}
use Rattle.container_outcomes.specs.declared.comparing.Compared.TheVariants.{Other}

-- a key into a set that is open; nothing is added to a view
abbrev pub added : List Object → Keyed → Value → Outcome
added objects (Set id) key = if is_open (guard_of objects id) then with_key key (Adds id key) else unsupported
added objects (View map part) key = unsupported

-- An entry is one of a view's where the map has its key, and it is equal to the entry that the view shows of that key, by a walk of
-- its own
abbrev pub shown_by : List Object → ℕ → Option (ℕ × Value) → Compared
shown_by objects map None = Other
shown_by objects map (Some entry) = if has_key objects map entry.1 then entry_comparison objects entry.0 entry.1 map entry.1 else Other

abbrev pub entry_shown : List Object → ℕ → Value → Compared
entry_shown objects map value = shown_by objects map (entry_of objects value)

abbrev pub entry_found : List Object → ℕ → Value → Outcome
entry_found objects map value = where_equal (entry_shown objects map value) (flag true) (flag false)

-- whether an element is there
abbrev pub found_in : List Object → Keyed → Value → Outcome
found_in objects (Set id) value = key_found objects id value
found_in objects (View map part.Keys) value = key_found objects map value
found_in objects (View map part.Values) value = value_found objects map value
found_in objects (View map part.Entries) value = entry_found objects map value

-- without the first pair that has this value
abbrev pub cut_value : List Object → ℕ → Value → Outcome
cut_value objects map value = where_found (first_from objects value 0 (pairs_of objects map)) (CutsPair map) (flag false)

-- without the key of an entry
abbrev pub key_dropped : ℕ → Option (ℕ × Value) → Outcome
key_dropped map None = flag false
key_dropped map (Some entry) = DropsEntry map entry.1

abbrev pub cut_entry : List Object → ℕ → Value → Outcome
cut_entry objects map value = where_equal (entry_shown objects map value) (key_dropped map (entry_of objects value)) (flag false)

-- without an element, and whether it was there
abbrev pub cut_from : List Object → Keyed → Value → Outcome
cut_from objects (Set id) value = with_key value (DropsKey id value)
cut_from objects (View map part.Keys) value = with_key value (DropsKey map value)
cut_from objects (View map part.Values) value = cut_value objects map value
cut_from objects (View map part.Entries) value = cut_entry objects map value

abbrev pub removed : List Object → Keyed → Value → Outcome
removed objects keyed value = if is_open (guard_of objects (holder_of keyed)) then cut_from objects keyed value else unsupported

abbrev pub cleared_of : List Object → Keyed → Outcome
cleared_of objects keyed = cleared objects (holder_of keyed)

abbrev pub size_of_keyed : List Object → Keyed → Outcome
size_of_keyed objects keyed = size_given objects (holder_of keyed)

abbrev pub emptiness_of : List Object → Keyed → Outcome
emptiness_of objects keyed = emptiness_given objects (holder_of keyed)

-- ---- the members, by their names

abbrev pub add : List Object → List Value → Outcome
add objects arguments = with_two (added objects) (keyed_at objects arguments 0) (slice_get arguments 1)

abbrev pub clear : List Object → List Value → Outcome
clear objects arguments = with_one (cleared_of objects) (keyed_at objects arguments 0)

abbrev pub contains : List Object → List Value → Outcome
contains objects arguments = with_two (found_in objects) (keyed_at objects arguments 0) (slice_get arguments 1)

abbrev pub is_empty : List Object → List Value → Outcome
is_empty objects arguments = with_one (emptiness_of objects) (keyed_at objects arguments 0)

abbrev pub remove : List Object → List Value → Outcome
remove objects arguments = with_two (removed objects) (keyed_at objects arguments 0) (slice_get arguments 1)

abbrev pub size : List Object → List Value → Outcome
size objects arguments = with_one (size_of_keyed objects) (keyed_at objects arguments 0)
