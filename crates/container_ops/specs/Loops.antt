-- What a loop over elements does: an iterator over what has elements, whether it has one left, and the next one.
use Rattle.std.specs.Prelude.{◌≡◌, ℕ, true, Option, Some, None}
use Rattle.object_values.specs.declared.value.Value.{Value}
use Rattle.object_values.specs.declared.value.Value.TheVariants as v
use Rattle.object_heap.specs.Store.{Store}
use Rattle.object_heap.specs.Effects.{Effect, Gives}
use Rattle.container_parts.specs.declared.containers.Container.{Container}
use Rattle.container_parts.specs.declared.cursors.Cursor.{Cursor}
use Rattle.container_parts.specs.Containers.{container_of}
use Rattle.container_parts.specs.Iterators.{iterate_over, iterator_of, is_before_end, next_over}
use Rattle.container_outcomes.specs.Outcomes.{is_text}
use Rattle.container_ops.specs.Types.{on_null, on_other_kind}

abbrev pub iterated_if : Store → ℕ → Option Container → Effect
iterated_if store id None = on_other_kind store
iterated_if store id (Some over) = iterate_over store id (Some over)

-- a new iterator over an array, a list, a set or a view
unfoldable pub iterated : Store → Value → Effect
iterated store v.Null = on_null store
iterated store (v.Ref id) = iterated_if store id (container_of store.objects id)
iterated store value = on_other_kind store

abbrev pub has_more_if : Store → Option Cursor → Effect
has_more_if store None = on_other_kind store
has_more_if store (Some it) = Gives (v.Bool (is_before_end store.objects it)) store

-- whether an iterator has an element left
unfoldable pub has_more : Store → Value → Effect
has_more store v.Null = on_null store
has_more store (v.Ref id) = has_more_if store (iterator_of store.objects id)
has_more store value = on_other_kind store

abbrev pub next_if : Store → ℕ → Option Cursor → Effect
next_if store id None = on_other_kind store
next_if store id (Some it) = next_over store id it (container_of store.objects it.over)

-- a copy of a value, and none where there is no memory for it, which a text alone takes
abbrev pub Copies : Value → Option Value → Type 0
Copies value None = is_text value ≡ true
Copies value (Some copy) = value ≡ copy

-- the same of an element, if it is there
abbrev pub CopiedAt : Option Value → Option (Option Value) → Type 0
CopiedAt None None = Unit {0}
CopiedAt None (Some copy) = ⊥
CopiedAt (Some value) None = ⊥
CopiedAt (Some value) (Some copy) = Copies value copy

-- the next element of an iterator
unfoldable pub next_element : Store → Value → Effect
next_element store v.Null = on_null store
next_element store (v.Ref id) = next_if store id (iterator_of store.objects id)
next_element store value = on_other_kind store
