-- The members of Iterable, Iterator and ScriptDocValues. What an Iterable and its elements are is said once, of lists, arrays, sets and
-- views alike, and so is what an iterator over them does.
use Rattle.std.specs.Prelude.{ℕ, Option, Some, None, List, [], ◌∷◌, codes, slice_get}
use Rattle.pl_units.specs.Utf16.{units}
use Rattle.pl_types.specs.declared.classes.TheConstants.{ILLEGAL_STATE_EXCEPTION, NULL_POINTER_EXCEPTION}
use Rattle.object_values.specs.declared.value.Value.{Value}
use Rattle.object_values.specs.declared.value.Value.TheVariants as v
use Rattle.object_heap.specs.Effects.{Effect, Gives, throws}
use Rattle.object_heap.specs.Parts.{items_of}
use Rattle.object_heap.specs.Store.{Store}
use Rattle.member_arguments.specs.Arguments.{object_at}
use Rattle.container_parts.specs.Iterators as iterators
use Rattle.container_parts.specs.declared.cursors.Cursor.{Cursor}
use Rattle.api_text.specs.Members as texts
use Rattle.api_text.specs.Outcomes as text_outcomes
use Rattle.api_iter.specs.declared.joining.TheConstants.{STRING_JOIN}

-- an exception where an object is missing or null
abbrev pub null_error : Store → Effect
null_error store = iterators.fails store NULL_POINTER_EXCEPTION

-- what comes of the object that the receiver is
abbrev pub with_receiver : Store → (ℕ → Effect) → Option ℕ → Effect
with_receiver store act None = null_error store
with_receiver store act (Some id) = act id

-- ---- Iterable

abbrev pub iterator : Store → List Value → Effect
iterator store arguments = with_receiver store (iterators.iterate store) (object_at arguments 0)

-- join is String.join, whose arguments are the text between and the receiver
abbrev pub joined_by : Store → Option Value → Option Value → Effect
joined_by store None between = null_error store
joined_by store (Some receiver) None = null_error store
joined_by store (Some receiver) (Some between) = text_outcomes.effect store (texts.does_numbered store.objects STRING_JOIN (between ∷ receiver ∷ []))

abbrev pub join : Store → List Value → Effect
join store arguments = joined_by store (slice_get arguments 0) (slice_get arguments 1)

-- ---- Iterator

abbrev pub next_is_there : Store → ℕ → Option Cursor → Effect
next_is_there store id None = null_error store
next_is_there store id (Some it) = Gives (v.Bool (iterators.has_next store.objects id)) store

abbrev pub has_next_of : Store → ℕ → Effect
has_next_of store id = next_is_there store id (iterators.iterator_of store.objects id)

abbrev pub has_next : Store → List Value → Effect
has_next store arguments = with_receiver store (has_next_of store) (object_at arguments 0)

abbrev pub next : Store → List Value → Effect
next store arguments = with_receiver store (iterators.next store) (object_at arguments 0)

abbrev pub remove : Store → List Value → Effect
remove store arguments = with_receiver store (iterators.remove store) (object_at arguments 0)

-- ---- ScriptDocValues

-- the first value of a field, if it has one
unfoldable pub no_value : Store → Effect
no_value store = throws store ILLEGAL_STATE_EXCEPTION (Some (units (codes "A document doesn't have a value for a field! Use doc[<field>].size()==0 to check if a document is missing a field!")))

abbrev pub first_of : Store → Option Value → Effect
first_of store None = no_value store
first_of store (Some value) = Gives value store

abbrev pub first_value : Store → ℕ → Effect
first_value store id = first_of store (slice_get (items_of store.objects id) 0)

abbrev pub get_value : Store → List Value → Effect
get_value store arguments = with_receiver store (first_value store) (object_at arguments 0)
