-- Iterators: the place of the next element, the change count that was seen, and the place of the element that was given last.
use Rattle.std.specs.Prelude.{ℕ, ◌==◌, nat_lt, Bool, false, not, Option, Some, None, List, [], ◌∷◌, ◌++◌, length, codes, slice_get, if◌then◌else◌}
use Rattle.pl_units.specs.Utf16.{units}
use Rattle.pl_types.specs.declared.classes.TheConstants.{CONCURRENT_MODIFICATION_EXCEPTION, ILLEGAL_STATE_EXCEPTION, NO_SUCH_ELEMENT_EXCEPTION, NULL_POINTER_EXCEPTION, UNSUPPORTED_OPERATION_EXCEPTION}
use Rattle.object_values.specs.declared.object.Object.{Object}
use Rattle.object_values.specs.declared.object.Object.TheVariants as o
use Rattle.object_values.specs.declared.value.Value.TheVariants as v
use Rattle.object_heap.specs.declared.answer.Answer.{Answer}
use Rattle.object_heap.specs.declared.answer.Answer.TheVariants as a
use Rattle.object_heap.specs.Effects.{Effect, Gives, after_paying, throws}
use Rattle.object_heap.specs.Objects.{changed, renewed_by, with_pair_cut, with_removed}
use Rattle.object_heap.specs.Store.{Store, paid, with_change}
use Rattle.container_parts.specs.Containers.{changes_now, container_of, count_of, element_at, lets_cut}
use Rattle.container_parts.specs.declared.containers.Container.{Container}
use Rattle.container_parts.specs.declared.containers.Container.TheVariants as c
use Rattle.container_parts.specs.declared.elements.Element.{Element}
use Rattle.container_parts.specs.declared.elements.Element.TheVariants as e
use Rattle.container_parts.specs.declared.cursors.Cursor.{Cursor}

abbrev pub if_iterator : Option Object → Option Cursor
if_iterator (Some (o.Iter over cursor seen last)) = Some (record { over = over; cursor = cursor; seen = seen; last = last })
if_iterator found = None

abbrev pub iterator_of : List Object → ℕ → Option Cursor
iterator_of objects id = if_iterator (slice_get objects id)

-- how many elements there are, and how often they were changed; nothing has none
abbrev pub count_over : List Object → Option Container → ℕ
count_over objects None = 0
count_over objects (Some container) = count_of objects container

abbrev pub changes_over : List Object → Option Container → ℕ
changes_over objects None = 0
changes_over objects (Some container) = changes_now objects container

abbrev pub element_over : List Object → Option Container → ℕ → Option Element
element_over objects None at = None
element_over objects (Some container) at = element_at objects container at

-- The iterator behind the element that it gives; and back at the place of one that it has taken out, which is no change for it
abbrev pub moved : Cursor → Object
moved it = o.Iter it.over (changed it.cursor) it.seen (Some it.cursor)

abbrev pub moved_back : Cursor → ℕ → Object
moved_back it at = o.Iter it.over at (changed it.seen) None

-- the store with the iterator renewed, which is free
abbrev pub with_iterator : Store → ℕ → Object → Store
with_iterator store id after = record { objects = with_change store.objects id (renewed_by after); room = store.room }

-- an exception without a message
abbrev pub fails : Store → ℕ → Effect
fails store class = throws store class None

-- what gives a value takes no memory; an exception that is made may
abbrev pub TakesNone : Effect → Answer → Type 0
TakesNone (Gives value store) a.NoMemory = ⊥
TakesNone effect answer = Unit {0}

-- ---- hasNext

-- whether the next place is not just behind the last element
abbrev pub is_before_end : List Object → Cursor → Bool
is_before_end objects it = not (it.cursor == count_over objects (container_of objects it.over))

abbrev pub has_next_of : List Object → Option Cursor → Bool
has_next_of objects None = false
has_next_of objects (Some it) = is_before_end objects it

abbrev pub has_next : List Object → ℕ → Bool
has_next objects id = has_next_of objects (iterator_of objects id)

-- ---- next

-- the element, behind which the iterator goes; an entry is made, and costs its weight
abbrev pub given : Store → ℕ → Cursor → Option Element → Effect
given store id it None = fails store CONCURRENT_MODIFICATION_EXCEPTION
given store id it (Some (e.There value)) = Gives value (with_iterator store id (moved it))
given store id it (Some (e.Entry map key)) = after_paying (paid store (store.objects ++ o.Entry map key ∷ []) 0) (λ paid. Gives (v.Ref (length store.objects)) (with_iterator paid id (moved it)))

abbrev pub next_over : Store → ℕ → Cursor → Option Container → Effect
next_over store id it over =
    if it.cursor == count_over store.objects over then fails store NO_SUCH_ELEMENT_EXCEPTION
    else (if it.seen == changes_over store.objects over then given store id it (element_over store.objects over it.cursor)
    else fails store CONCURRENT_MODIFICATION_EXCEPTION)

abbrev pub next_of : Store → ℕ → Option Cursor → Effect
next_of store id None = fails store NULL_POINTER_EXCEPTION
next_of store id (Some it) = next_over store id it (container_of store.objects it.over)

abbrev pub next : Store → ℕ → Effect
next store id = next_of store id (iterator_of store.objects id)

-- ---- remove

-- without the element at a place
abbrev pub without_element : Store → Container → ℕ → Store
without_element store (c.Items list) at = record { objects = with_change store.objects list (with_removed at); room = store.room }
without_element store (c.Array array) at = store
without_element store (c.Keys set) at = record { objects = with_change store.objects set (with_pair_cut at); room = store.room }
without_element store (c.Shown map part) at = record { objects = with_change store.objects map (with_pair_cut at); room = store.room }

abbrev pub taken_out : Store → ℕ → Cursor → Container → ℕ → Effect
taken_out store id it over at = Gives v.Null (with_iterator (without_element store over at) id (moved_back it at))

abbrev pub no_element : Store → Effect
no_element store = throws store ILLEGAL_STATE_EXCEPTION (Some (units (codes "no element")))

-- the element that was given last, where it is still there and nothing else has changed
abbrev pub taken_if_there : Store → ℕ → Cursor → Container → Option ℕ → Effect
taken_if_there store id it over None = no_element store
taken_if_there store id it over (Some at) =
    if it.seen == changes_now store.objects over
    then (if nat_lt at (count_of store.objects over) then taken_out store id it over at else fails store CONCURRENT_MODIFICATION_EXCEPTION)
    else fails store CONCURRENT_MODIFICATION_EXCEPTION

abbrev pub remove_over : Store → ℕ → Cursor → Option Container → Effect
remove_over store id it None = fails store UNSUPPORTED_OPERATION_EXCEPTION
remove_over store id it (Some over) =
    if lets_cut store.objects over then taken_if_there store id it over it.last else fails store UNSUPPORTED_OPERATION_EXCEPTION

abbrev pub remove_of : Store → ℕ → Option Cursor → Effect
remove_of store id None = fails store NULL_POINTER_EXCEPTION
remove_of store id (Some it) = remove_over store id it (container_of store.objects it.over)

abbrev pub remove : Store → ℕ → Effect
remove store id = remove_of store id (iterator_of store.objects id)

-- ---- iterator

-- a new iterator, before the first element
abbrev pub iterate_over : Store → ℕ → Option Container → Effect
iterate_over store id None = fails store NULL_POINTER_EXCEPTION
iterate_over store id (Some over) = after_paying (paid store (store.objects ++ o.Iter id 0 (changes_now store.objects over) None ∷ []) 0) (λ paid. Gives (v.Ref (length store.objects)) paid)

abbrev pub iterate : Store → ℕ → Effect
iterate store id = iterate_over store id (container_of store.objects id)
