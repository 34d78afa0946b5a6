-- Whether a collection holds an element: a value, or an entry that a view shows, which is no value of its own and goes by its map and
-- its key. Of a set and of a view of keys a key is looked up by its hash; an element that is no key is none of theirs.
use Rattle.std.specs.Prelude.{ℕ, Option, Some, None, List, [], ◌∷◌, is_some, if◌then◌else◌}
use Rattle.object_values.specs.declared.object.Object.{Object}
use Rattle.object_values.specs.declared.object.Part.{Part}
use Rattle.object_values.specs.declared.object.Part.TheVariants as part
use Rattle.object_values.specs.declared.value.Value.{Value}
use Rattle.object_values.specs.Pairs.{value_of}
use Rattle.object_heap.specs.Parts.{items_of, pairs_of}
use Rattle.container_values.specs.Elements.{values_in}
use Rattle.container_outcomes.specs.declared.comparing.Compared.{Compared}
use Rattle.container_outcomes.specs.declared.comparing.Compared.TheVariants.{Same, Other}
use Rattle.api_map.specs.declared.sources.Source.{Source}
use Rattle.api_map.specs.declared.sources.Source.TheVariants.{Items, Pairs}
use Rattle.api_map.specs.Arguments.{entry_of}
use Rattle.api_map.specs.Collections.{entry_shown, shown_by}
use Rattle.container_outcomes.specs.Comparing.{comparison, entry_comparison}

-- the first of the values that is the same, or why the search stopped
abbrev pub or_else : Compared → Compared → Compared
or_else Other rest = rest
or_else found rest = found

abbrev pub among : (Value → Compared) → List Value → Compared
among test [] = Other
among test (value ∷ values) = or_else (test value) (among test values)

-- a key that is looked up
abbrev pub key_in : List (Value × Value) → Value → Compared
key_in pairs key = if is_some (value_of pairs key) then Same else Other

abbrev pub value_shown : List Object → ℕ → Part → Value → Compared
value_shown objects map part.Keys value = key_in (pairs_of objects map) value
value_shown objects map part.Values value = among (comparison objects value) (values_in (pairs_of objects map))
value_shown objects map part.Entries value = entry_shown objects map value

abbrev pub value_in : List Object → Source → Value → Compared
value_in objects (Items id) value = among (comparison objects value) (items_of objects id)
value_in objects (Pairs map part) value = value_shown objects map part value

-- an entry that a view shows is compared with an entry as two entries that are objects are, by a walk of its own
abbrev pub same_entry : List Object → ℕ → Value → Option (ℕ × Value) → Compared
same_entry objects from key None = Other
same_entry objects from key (Some other) = entry_comparison objects from key other.0 other.1

abbrev pub is_entry : List Object → ℕ → Value → Value → Compared
is_entry objects from key value = same_entry objects from key (entry_of objects value)

abbrev pub entry_shown_too : List Object → ℕ → Part → ℕ → Value → Compared
entry_shown_too objects map part.Keys from key = Other
entry_shown_too objects map part.Values from key = among (is_entry objects from key) (values_in (pairs_of objects map))
entry_shown_too objects map part.Entries from key = shown_by objects map (Some (from, key))

abbrev pub entry_in : List Object → Source → ℕ → Value → Compared
entry_in objects (Items id) from key = among (is_entry objects from key) (items_of objects id)
entry_in objects (Pairs map part) from key = entry_shown_too objects map part from key
