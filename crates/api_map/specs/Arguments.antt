-- What arguments are: simple keys, maps, entries and collections with keys.
use Rattle.std.specs.Prelude.{ℕ, Option, Some, None, List, slice_get, if◌then◌else◌}
use Rattle.object_values.specs.declared.object.Object.{Object}
use Rattle.object_values.specs.declared.object.Object.TheVariants as o
use Rattle.object_values.specs.declared.value.Value.{Value}
use Rattle.object_values.specs.Values.{is_simple}
use Rattle.member_arguments.specs.Arguments.{object_at, object_in}
use Rattle.api_map.specs.declared.arguments.Keyed.{Keyed}
use Rattle.api_map.specs.declared.arguments.Keyed.TheVariants.{Set, View}
use Rattle.container_outcomes.specs.declared.outcome.Outcome.{Outcome}
use Rattle.container_outcomes.specs.Outcomes.{not_simple}

-- goes on where a key is simple
abbrev pub with_key : Value → Outcome → Outcome
with_key key told = if is_simple key then told else not_simple

-- the number of an object that is a map
abbrev pub if_map : ℕ → Option Object → Option ℕ
if_map id (Some (o.Map class pairs guard changes)) = Some id
if_map id found = None

abbrev pub map_named : List Object → Option ℕ → Option ℕ
map_named objects None = None
map_named objects (Some id) = if_map id (slice_get objects id)

abbrev pub map_at : List Object → List Value → ℕ → Option ℕ
map_at objects arguments at = map_named objects (object_at arguments at)

-- an entry: its map and its key
abbrev pub if_entry : Option Object → Option (ℕ × Value)
if_entry (Some (o.Entry map key)) = Some (map, key)
if_entry found = None

abbrev pub entry_named : List Object → Option ℕ → Option (ℕ × Value)
entry_named objects None = None
entry_named objects (Some id) = if_entry (slice_get objects id)

abbrev pub entry_of : List Object → Value → Option (ℕ × Value)
entry_of objects value = entry_named objects (object_in (Some value))

abbrev pub entry_at : List Object → List Value → ℕ → Option (ℕ × Value)
entry_at objects arguments at = entry_named objects (object_at arguments at)

-- a collection with keys: a set, or a view of a map
abbrev pub if_keyed : ℕ → Option Object → Option Keyed
if_keyed id (Some (o.Set class items guard changes)) = Some (Set id)
if_keyed id (Some (o.View map part)) = Some (View map part)
if_keyed id found = None

abbrev pub keyed_named : List Object → Option ℕ → Option Keyed
keyed_named objects None = None
keyed_named objects (Some id) = if_keyed id (slice_get objects id)

abbrev pub keyed_at : List Object → List Value → ℕ → Option Keyed
keyed_at objects arguments at = keyed_named objects (object_at arguments at)

-- the set itself, or the map that is shown
abbrev pub holder_of : Keyed → ℕ
holder_of (Set id) = id
holder_of (View map part) = map
