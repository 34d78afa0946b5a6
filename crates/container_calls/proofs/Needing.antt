-- What a function wants memory for does not go by the room that is left.
use Rattle.std.proofs.Common.{◌==◌, ℕ, Bool, true, false, nat_lt, Option, Some, None, List, slice_get, if◌then◌else◌}
use Rattle.pl_types.specs.declared.classes.TheConstants.{CONCURRENT_MODIFICATION_EXCEPTION, ILLEGAL_STATE_EXCEPTION, NULL_POINTER_EXCEPTION, UNSUPPORTED_OPERATION_EXCEPTION}
use Rattle.object_values.specs.declared.object.Object.{Object}
use Rattle.object_values.specs.declared.value.Value.{Value}
use Rattle.object_heap.specs.declared.answer.Answer.{Answer}
use Rattle.object_heap.specs.declared.answer.Answer.TheVariants as a
use Rattle.object_heap.specs.Effects.{Effect, throws}
use Rattle.object_heap.specs.Parts.{items_of}
use Rattle.object_heap.specs.Store.{Store}
use Rattle.member_arguments.specs.Arguments.{object_at}
use Rattle.api_iter.specs.Containers.{changes_now, container_of, count_of, lets_cut}
use Rattle.api_iter.specs.Iterators as iterators
use Rattle.api_iter.specs.container_parts_declared.containers.Container.{Container}
use Rattle.api_iter.specs.container_parts_declared.cursors.Cursor.{Cursor}
use Rattle.api_map.specs.Outcomes as container_outcomes
use Rattle.api_iter.specs.declared.member.Member.{Member}
use Rattle.api_iter.specs.declared.member.Member.TheVariants as m
use Rattle.api_iter.specs.Iterating as iterating
use Rattle.api_iter.specs.Members as iterables
use Rattle.api_iter.proofs.Wanting.{raised, raised_or_copied}
use Rattle.api_list.specs.Members as lists
use Rattle.api_list.specs.Taking.{ToldWants}
use Rattle.api_map.specs.Members as maps
use Rattle.container_calls.specs.declared.family.Family.TheVariants.{Iterables, Lists, Maps}
use Rattle.container_calls.specs.Answers.{FamilyWants}

abbrev bare : Store → Store
bare store = record { objects = store.objects; room = 0 }

thrown_raises : (store : Store) (class : ℕ) (message : Option (List ℕ)) → iterables.Raises (throws store class message)
thrown_raises store class message = raised store class message a.NoMemory

if_raises : (test : Bool) (x y x' y' : Effect) → (iterables.Raises x → iterables.Raises x') → (iterables.Raises y → iterables.Raises y') → iterables.Raises (if test then x else y) → iterables.Raises (if test then x' else y')
if_raises true x y x' y' h k r = h r
if_raises false x y x' y' h k r = k r

there_raises : (store : Store) (id : ℕ) (found : Option Cursor) → iterables.Raises (iterating.next_is_there store id found) → iterables.Raises (iterating.next_is_there (bare store) id found)
there_raises store id None r = thrown_raises (bare store) NULL_POINTER_EXCEPTION None
there_raises store id (Some it) r = r

has_next_raises : (store : Store) (found : Option ℕ) → iterables.Raises (iterating.with_receiver store (iterating.has_next_of store) found)
    → iterables.Raises (iterating.with_receiver (bare store) (iterating.has_next_of (bare store)) found)
has_next_raises store None r = thrown_raises (bare store) NULL_POINTER_EXCEPTION None
has_next_raises store (Some id) r = there_raises store id (iterators.iterator_of store.objects id) r

last_raises : (store : Store) (id : ℕ) (it : Cursor) (over : Container) (last : Option ℕ) → iterables.Raises (iterators.taken_if_there store id it over last)
    → iterables.Raises (iterators.taken_if_there (bare store) id it over last)
last_raises store id it over None r = thrown_raises (bare store) ILLEGAL_STATE_EXCEPTION _
last_raises store id it over (Some at) r =
    if_raises (it.seen == changes_now store.objects over) _ _ _ _
    (if_raises (nat_lt at (count_of store.objects over)) _ _ _ _ (λ h. h) (λ _. thrown_raises (bare store) CONCURRENT_MODIFICATION_EXCEPTION None))
    (λ _. thrown_raises (bare store) CONCURRENT_MODIFICATION_EXCEPTION None) r

remove_over_raises : (store : Store) (id : ℕ) (it : Cursor) (over : Option Container) → iterables.Raises (iterators.remove_over store id it over)
    → iterables.Raises (iterators.remove_over (bare store) id it over)
remove_over_raises store id it None r = thrown_raises (bare store) UNSUPPORTED_OPERATION_EXCEPTION None
remove_over_raises store id it (Some over) r =
    if_raises (lets_cut store.objects over) _ _ _ _ (last_raises store id it over it.last) (λ _. thrown_raises (bare store) UNSUPPORTED_OPERATION_EXCEPTION None) r

remove_of_raises : (store : Store) (id : ℕ) (found : Option Cursor) → iterables.Raises (iterators.remove_of store id found) → iterables.Raises (iterators.remove_of (bare store) id found)
remove_of_raises store id None r = thrown_raises (bare store) NULL_POINTER_EXCEPTION None
remove_of_raises store id (Some it) r = remove_over_raises store id it (container_of store.objects it.over) r

remove_raises : (store : Store) (found : Option ℕ) → iterables.Raises (iterating.with_receiver store (iterators.remove store) found)
    → iterables.Raises (iterating.with_receiver (bare store) (iterators.remove (bare store)) found)
remove_raises store None r = thrown_raises (bare store) NULL_POINTER_EXCEPTION None
remove_raises store (Some id) r = remove_of_raises store id (iterators.iterator_of store.objects id) r

thrown_copies : (store : Store) (class : ℕ) (message : Option (List ℕ)) → iterables.RaisesOrCopies (throws store class message)
thrown_copies store class message = raised_or_copied store class message a.NoMemory

first_copies : (store : Store) (found : Option Value) → iterables.RaisesOrCopies (iterating.first_of store found) → iterables.RaisesOrCopies (iterating.first_of (bare store) found)
unfolding iterating.no_value
first_copies store None r = thrown_copies (bare store) ILLEGAL_STATE_EXCEPTION _
first_copies store (Some value) r = r

value_copies : (store : Store) (found : Option ℕ) → iterables.RaisesOrCopies (iterating.with_receiver store (iterating.first_value store) found)
    → iterables.RaisesOrCopies (iterating.with_receiver (bare store) (iterating.first_value (bare store)) found)
value_copies store None r = thrown_copies (bare store) NULL_POINTER_EXCEPTION None
value_copies store (Some id) r = first_copies store (slice_get (items_of store.objects id) 0) r

iterable_wants : (store : Store) (member : Option Member) (arguments : List Value) → iterables.WantsMemory member (iterables.does_found store member arguments) a.NoMemory
    → iterables.WantsMemory member (iterables.does_found (bare store) member arguments) a.NoMemory
iterable_wants store None arguments w = w
iterable_wants store (Some m.HasNext) arguments w = has_next_raises store (object_at arguments 0) w
iterable_wants store (Some m.Remove) arguments w = remove_raises store (object_at arguments 0) w
iterable_wants store (Some m.GetValue) arguments w = value_copies store (object_at arguments 0) w
iterable_wants store (Some m.Iterator) arguments w = tt
iterable_wants store (Some m.Join) arguments w = tt
iterable_wants store (Some m.Next) arguments w = tt

pub iterables_want : (store : Store) (number : ℕ) (arguments : List Value) (answer : Answer) → iterables.WantsMemory (iterables.numbered number) (iterables.does_numbered store number arguments) answer
    → FamilyWants Iterables store.objects number arguments answer
iterables_want store number arguments (a.Value value) w = tt
iterables_want store number arguments (a.Thrown id) w = tt
iterables_want store number arguments a.Room w = tt
iterables_want store number arguments a.NoMemory w = iterable_wants store (iterables.numbered number) arguments w

pub lists_want : (objects : List Object) (number : ℕ) (arguments : List Value) (answer : Answer) → ToldWants (lists.comes_to objects number arguments) answer
    → FamilyWants Lists objects number arguments answer
lists_want objects number arguments (a.Value value) w = tt
lists_want objects number arguments (a.Thrown id) w = tt
lists_want objects number arguments a.Room w = tt
lists_want objects number arguments a.NoMemory w = w

pub maps_want : (objects : List Object) (number : ℕ) (arguments : List Value) (answer : Answer) → container_outcomes.WantsMemory (maps.does_numbered objects number arguments) answer
    → FamilyWants Maps objects number arguments answer
maps_want objects number arguments (a.Value value) w = tt
maps_want objects number arguments (a.Thrown id) w = tt
maps_want objects number arguments a.Room w = tt
maps_want objects number arguments a.NoMemory w = w
