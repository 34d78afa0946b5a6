-- The elements of what has elements, as a list: the values that are there, and the entries that a view shows, which are objects that are to be made.
use Rattle.std.specs.Prelude.{ℕ, zero, suc, ◌+◌, Option, Some, None, List, [], ◌∷◌, ◌++◌, length}
use Rattle.object_values.specs.declared.object.Object.{Object}
use Rattle.object_values.specs.declared.object.Object.TheVariants as o
use Rattle.object_values.specs.declared.object.Part.{Part}
use Rattle.object_values.specs.declared.object.Part.TheVariants as part
use Rattle.object_values.specs.declared.value.Value.{Value}
use Rattle.object_values.specs.declared.value.Value.TheVariants as v
use Rattle.object_heap.specs.Parts.{items_of, pairs_of}
use Rattle.container_parts.specs.Containers.{container_at}
use Rattle.container_parts.specs.declared.containers.Container.{Container}
use Rattle.container_parts.specs.declared.containers.Container.TheVariants as c

-- an argument that is a collection: a list, a set or a view, and no array
abbrev pub if_collection : Option Container → Option Container
if_collection None = None
if_collection (Some (c.Items id)) = Some (c.Items id)
if_collection (Some (c.Array id)) = None
if_collection (Some (c.Keys id)) = Some (c.Keys id)
if_collection (Some (c.Shown map part)) = Some (c.Shown map part)

abbrev pub collection_at : List Object → List Value → ℕ → Option Container
collection_at objects arguments at = if_collection (container_at objects arguments at)

-- the keys and the values of pairs, in their order
abbrev pub keys_in : List (Value × Value) → List Value
keys_in [] = []
keys_in (pair ∷ pairs) = pair.0 ∷ keys_in pairs

abbrev pub values_in : List (Value × Value) → List Value
values_in [] = []
values_in (pair ∷ pairs) = pair.1 ∷ values_in pairs

-- the elements that are values already; of a view of entries there are none
abbrev pub shown_values : Part → List (Value × Value) → List Value
shown_values part.Keys pairs = keys_in pairs
shown_values part.Values pairs = values_in pairs
shown_values part.Entries pairs = []

abbrev pub values_of : List Object → Container → List Value
values_of objects (c.Items id) = items_of objects id
values_of objects (c.Array id) = items_of objects id
values_of objects (c.Keys id) = keys_in (pairs_of objects id)
values_of objects (c.Shown map part) = shown_values part (pairs_of objects map)

-- the keys under which a view of entries shows entries; of anything else there are none
abbrev pub entry_keys : Part → List (Value × Value) → List Value
entry_keys part.Keys pairs = []
entry_keys part.Values pairs = []
entry_keys part.Entries pairs = keys_in pairs

abbrev pub entry_keys_of : List Object → Container → List Value
entry_keys_of objects (c.Items id) = []
entry_keys_of objects (c.Array id) = []
entry_keys_of objects (c.Keys id) = []
entry_keys_of objects (c.Shown map part) = entry_keys part (pairs_of objects map)

-- the map whose entries they are
abbrev pub map_shown : Container → ℕ
map_shown (c.Items id) = id
map_shown (c.Array id) = id
map_shown (c.Keys id) = id
map_shown (c.Shown map part) = map

-- the entries of a map under keys, as objects
abbrev pub entries_under : ℕ → List Value → List Object
entries_under map [] = []
entries_under map (key ∷ keys) = o.Entry map key ∷ entries_under map keys

abbrev pub entries_of : List Object → Container → List Object
entries_of objects container = entries_under (map_shown container) (entry_keys_of objects container)

-- so many objects, by their numbers, from a number on
abbrev pub references : ℕ → ℕ → List Value
references from zero = []
references from (suc count) = v.Ref from ∷ references (from + 1) count

-- references to the entries, which stand behind the objects that are there
abbrev pub entry_references : List Object → Container → List Value
entry_references objects container = references (length objects) (length (entry_keys_of objects container))

-- all elements as values, once the entries are added
abbrev pub taken : List Object → Container → List Value
taken objects container = values_of objects container ++ entry_references objects container
