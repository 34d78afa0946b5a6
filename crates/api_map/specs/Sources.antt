-- What holds the elements that a member takes from a collection: a list, a set, or what a view shows of the pairs of its map.
use Rattle.std.specs.Prelude.{ℕ, Bool, true, false, Option, Some, None, List, [], ◌∷◌, slice_get, if◌then◌else◌}
use Rattle.object_values.specs.declared.object.Object.{Object}
use Rattle.object_values.specs.declared.object.Object.TheVariants as o
use Rattle.object_values.specs.declared.object.Part.TheVariants as part
use Rattle.object_values.specs.declared.value.Value.{Value}
use Rattle.object_values.specs.declared.value.Value.TheVariants as v
use Rattle.object_values.specs.Pairs.{with_pair}
use Rattle.object_values.specs.Values.{is_simple}
use Rattle.object_heap.specs.Parts.{items_of, pairs_of}
use Rattle.member_arguments.specs.Arguments.{object_at}
use Rattle.container_values.specs.Elements.{shown_values}
use Rattle.api_map.specs.declared.sources.Source.{Source}
use Rattle.api_map.specs.declared.sources.Source.TheVariants.{Items, Pairs}

abbrev pub if_source : ℕ → Option Object → Option Source
if_source id (Some (o.List class items guard changes)) = Some (Items id)
if_source id (Some (o.Set class items guard changes)) = Some (Pairs id part.Keys)
if_source id (Some (o.View map part)) = Some (Pairs map part)
if_source id found = None

abbrev pub source_named : List Object → Option ℕ → Option Source
source_named objects None = None
source_named objects (Some id) = if_source id (slice_get objects id)

abbrev pub source_at : List Object → List Value → ℕ → Option Source
source_at objects arguments at = source_named objects (object_at arguments at)

-- the elements that are values of their own; an entry of a view is none
abbrev pub elements : List Object → Source → List Value
elements objects (Items id) = items_of objects id
elements objects (Pairs id part) = shown_values part (pairs_of objects id)

abbrev pub has_pairs : List (Value × Value) → Bool
has_pairs [] = false
has_pairs (pair ∷ pairs) = true

abbrev pub has_entries : List Object → Source → Bool
has_entries objects (Items id) = false
has_entries objects (Pairs id part.Keys) = false
has_entries objects (Pairs id part.Values) = false
has_entries objects (Pairs id part.Entries) = has_pairs (pairs_of objects id)

-- whether all elements may be keys, which entries may not
abbrev pub all_simple : List Value → Bool
all_simple [] = true
all_simple (value ∷ values) = if is_simple value then all_simple values else false

abbrev pub are_keys : List Object → Source → Bool
are_keys objects source = if has_entries objects source then false else all_simple (elements objects source)

-- pairs with further keys, whose values are null
abbrev pub with_keys : List (Value × Value) → List Value → List (Value × Value)
with_keys pairs [] = pairs
with_keys pairs (key ∷ keys) = with_keys (with_pair pairs key v.Null) keys
