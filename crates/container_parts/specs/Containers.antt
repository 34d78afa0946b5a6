-- What has elements: a list, an array, a set, or what a view shows of the pairs of its map; and its elements by their places.
use Rattle.std.specs.Prelude.{ℕ, Bool, true, false, Option, Some, None, List, slice_get}
use Rattle.object_values.specs.declared.object.Guard.{Guard}
use Rattle.object_values.specs.declared.object.Guard.TheVariants as g
use Rattle.object_values.specs.declared.object.Object.{Object}
use Rattle.object_values.specs.declared.object.Object.TheVariants as o
use Rattle.object_values.specs.declared.object.Part.{Part}
use Rattle.object_values.specs.declared.object.Part.TheVariants as part
use Rattle.object_values.specs.declared.value.Value.{Value}
use Rattle.object_values.specs.Pairs.{key_at, pair_value_at}
use Rattle.object_heap.specs.Parts.{changes_of, guard_of, items_of, pairs_of, size_of}
use Rattle.member_arguments.specs.Arguments.{object_at}
use Rattle.container_parts.specs.declared.containers.Container.{Container}
use Rattle.container_parts.specs.declared.containers.Container.TheVariants as c
use Rattle.container_parts.specs.declared.elements.Element.{Element}
use Rattle.container_parts.specs.declared.elements.Element.TheVariants as e

-- an object that has elements
abbrev pub if_container : ℕ → Option Object → Option Container
if_container id (Some (o.List class items guard changes)) = Some (c.Items id)
if_container id (Some (o.Array elem items)) = Some (c.Array id)
if_container id (Some (o.Set class items guard changes)) = Some (c.Keys id)
if_container id (Some (o.View map part)) = Some (c.Shown map part)
if_container id found = None

abbrev pub container_of : List Object → ℕ → Option Container
container_of objects id = if_container id (slice_get objects id)

abbrev pub container_named : List Object → Option ℕ → Option Container
container_named objects None = None
container_named objects (Some id) = container_of objects id

abbrev pub container_at : List Object → List Value → ℕ → Option Container
container_at objects arguments at = container_named objects (object_at arguments at)

-- the object that holds the elements: it itself, or the map that a view shows
abbrev pub holder_of : Container → ℕ
holder_of (c.Items id) = id
holder_of (c.Array id) = id
holder_of (c.Keys id) = id
holder_of (c.Shown map part) = map

-- how many elements there are
abbrev pub count_of : List Object → Container → ℕ
count_of objects container = size_of objects (holder_of container)

-- how often it was changed; the size of an array never is
abbrev pub changes_now : List Object → Container → ℕ
changes_now objects container = changes_of objects (holder_of container)

-- An element that is a value there already; or one that is an entry, which is an object that is to be made
abbrev pub there : Option Value → Option Element
there None = None
there (Some value) = Some (e.There value)

abbrev pub entry_under : ℕ → Option Value → Option Element
entry_under map None = None
entry_under map (Some key) = Some (e.Entry map key)

abbrev pub shown_at : List (Value × Value) → ℕ → Part → ℕ → Option Element
shown_at pairs map part.Keys at = there (key_at pairs at)
shown_at pairs map part.Values at = there (pair_value_at pairs at)
shown_at pairs map part.Entries at = entry_under map (key_at pairs at)

-- the element at a place
abbrev pub element_at : List Object → Container → ℕ → Option Element
element_at objects (c.Items id) at = there (slice_get (items_of objects id) at)
element_at objects (c.Array id) at = there (slice_get (items_of objects id) at)
element_at objects (c.Keys id) at = there (key_at (pairs_of objects id) at)
element_at objects (c.Shown map part) at = shown_at (pairs_of objects map) map part at

-- Whether elements may be taken out: of what is open alone, and never of an array
abbrev pub is_open : Option Guard → Bool
is_open None = true
is_open (Some g.Open) = true
is_open (Some g.Frozen) = false
is_open (Some (g.Keys keys)) = false
is_open (Some g.Mapped) = false

abbrev pub lets_cut : List Object → Container → Bool
lets_cut objects (c.Items id) = is_open (guard_of objects id)
lets_cut objects (c.Array id) = false
lets_cut objects (c.Keys id) = is_open (guard_of objects id)
lets_cut objects (c.Shown map part) = is_open (guard_of objects map)
