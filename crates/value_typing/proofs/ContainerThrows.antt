-- What members of containers throw is an exception that is there.
use Rattle.std.proofs.Common.{◌≡◌, ℕ, true, Option, Some, None, List, ◌∷◌, [], ◌++◌, length, refl, slice_get, not}
use Rattle.std.specs.Prelude.{◌+◌, nat_lt}
use Rattle.std.proofs.lemmas.Bool.{cond_both}
use Rattle.pl_types.specs.declared.classes.TheConstants.{EXCEPTION, ILLEGAL_STATE_EXCEPTION, NULL_POINTER_EXCEPTION}
use Rattle.pl_types.specs.Classes.{class_is_below, lineage_of, parents_of, class_row, class_table}
use Rattle.object_values.specs.declared.object.Object.{Object}
use Rattle.object_values.specs.declared.value.Value.{Value}
use Rattle.object_values.specs.declared.value.Value.TheVariants as v
use Rattle.object_heap.specs.Effects.{Effect, Gives, after_paying, gives_paid, throws}
use Rattle.object_heap.specs.Fits.{Rules, Fits}
use Rattle.object_heap.specs.Objects.{renewed_by, with_all_inserted, with_all_put, with_inserted, with_put}
use Rattle.object_heap.specs.Parts.{items_of, open_at, size_of}
use Rattle.object_heap.specs.Store.{Store, paid, with_change}
use Rattle.object_heap.proofs.Keeping.{throws_fits}
use Rattle.container_calls.specs.Arguments.{object_at}
use Rattle.value_walks.specs.Equality.{value_now}
use Rattle.api_map.specs.Iterators as iterators
use Rattle.api_map.specs.container_parts_declared.containers.Container.{Container}
use Rattle.api_map.specs.container_parts_declared.cursors.Cursor.{Cursor}
use Rattle.api_map.proofs.ContainerPartsKeeping.{iterate_fits, next_fits, remove_fits}
use Rattle.api_map.specs.Elements.{entries_of, entry_references}
use Rattle.container_outcomes.specs.declared.outcome.Outcome.{Outcome}
use Rattle.container_outcomes.specs.declared.outcome.Outcome.TheVariants as outcome
use Rattle.container_outcomes.specs.Outcomes.{effect, gives_renewed, has_key, is_collection, number_of}
use Rattle.container_outcomes.proofs.Settling.{settled}
use Rattle.api_text.specs.Members as texts
use Rattle.container_calls.specs.api_iter_declared.joining.TheConstants.{STRING_JOIN}
use Rattle.container_calls.specs.api_iter_declared.member.Member.{Member}
use Rattle.container_calls.specs.api_iter_declared.member.Member.TheVariants as m
use Rattle.container_calls.specs.Iterating as iterating
use Rattle.container_calls.specs.ApiIterMembers as iterables
use Rattle.api_list.specs.Members as lists
use Rattle.api_list.specs.Taking as taking
use Rattle.api_list.specs.declared.told.Told.{Told}
use Rattle.api_list.specs.declared.told.Told.TheVariants.{Says, Enters}
use Rattle.api_map.specs.Members as maps
use Rattle.container_calls.specs.declared.family.Family.{Family}
use Rattle.container_calls.specs.declared.family.Family.TheVariants.{Iterables, Lists, Maps}
use Rattle.container_calls.specs.Members.{act_of, does_container, family_of, is_on_list}
use Rattle.value_typing.proofs.Effects.{ThrowsThere, thrown_there, paid_there}
use Rattle.value_typing.proofs.MemberTexts.{text_throws}

-- ---- outcomes

changed_there : (store : Store) (id : ℕ) (change : Object → Object) (value : Value) → ThrowsThere (gives_paid store (with_change store.objects id change) value)
changed_there store id change value = paid_there (paid store (with_change store.objects id change) 0) value

renewed_there : (store : Store) (id : ℕ) (object : Object) (value : Value) → ThrowsThere (gives_renewed store id object value)
renewed_there store id object value = cond_both (is_collection object) _ _ ThrowsThere (λ _. changed_there store id (renewed_by object) value) (λ _. tt)

-- what is paid and gives a value of the store that is left throws nothing
grown_there : (o : Option Store) (value : Store → Value) → ThrowsThere (after_paying o (λ paid. Gives (value paid) paid))
grown_there None value = tt
grown_there (Some store) value = tt

outcome_there : (rules : Rules) (store : Store) (told : Outcome) → Fits rules store.objects → ThrowsThere (effect store told)
outcome_there rules store (outcome.Gives value) f = tt
outcome_there rules store (outcome.Writes text) f = paid_there (paid store store.objects (length text + 1)) (v.Str text)
outcome_there rules store (outcome.New object) f = paid_there (paid store (store.objects ++ object ∷ []) 0) (v.Ref (length store.objects))
outcome_there rules store (outcome.Makes before object) f =
    paid_there (paid store (store.objects ++ before ++ object ∷ []) 0) (v.Ref (length store.objects + length before))
outcome_there rules store (outcome.Inserts id at item value) f = changed_there store id (with_inserted at item) value
outcome_there rules store (outcome.Extends id at items value) f = changed_there store id (with_all_inserted at items) value
outcome_there rules store (outcome.Sets id at item) f = tt
outcome_there rules store (outcome.SetsTwo id at item other_at other) f = tt
outcome_there rules store (outcome.Cuts id at) f = tt
outcome_there rules store (outcome.Drops id at) f = tt
outcome_there rules store (outcome.Puts id key value) f = changed_there store id (with_put key value) (value_now store.objects id key)
outcome_there rules store (outcome.Adds id key) f = changed_there store id (with_put key v.Null) (v.Bool (not (has_key store.objects id key)))
outcome_there rules store (outcome.PutsAll id pairs) f = changed_there store id (with_all_put pairs) v.Null
outcome_there rules store (outcome.AddsAll id keys) f =
    grown_there (paid store (with_change store.objects id (with_all_put keys)) 0) (λ paid. v.Bool (nat_lt (size_of store.objects id) (size_of paid.objects id)))
outcome_there rules store (outcome.CutsKey id key) f = tt
outcome_there rules store (outcome.DropsKey id key) f = tt
outcome_there rules store (outcome.DropsEntry id key) f = tt
outcome_there rules store (outcome.CutsPair id at) f = tt
outcome_there rules store (outcome.Empties id object) f = renewed_there store id object v.Null
outcome_there rules store (outcome.Becomes id object value) f = renewed_there store id object value
outcome_there rules store (outcome.Throws raised message) f =
    thrown_there rules (throws store (number_of raised) message) (settled rules store (outcome.Throws raised message) f tt)
outcome_there rules store outcome.NoMemory f = tt

entered_there : (store : Store) (list : ℕ) (container : Container) (grown : Option Object) → ThrowsThere (taking.entered_as store list container grown)
entered_there store list container None = tt
entered_there store list container (Some object) =
    paid_there (paid store (with_change (store.objects ++ entries_of store.objects container) list (renewed_by object)) 0) (v.Bool true)

told_there : (rules : Rules) (store : Store) (told : Told) → Fits rules store.objects → ThrowsThere (taking.told_effect store told)
told_there rules store (Says told) f = outcome_there rules store told f
told_there rules store (Enters list at container) f =
    entered_there store list container (taking.grown at (entry_references store.objects container) (open_at store.objects list))

-- ---- iterators and joining

null_is : class_is_below NULL_POINTER_EXCEPTION EXCEPTION ≡ true
unfolding class_is_below lineage_of parents_of class_row class_table
null_is = refl

state_is : class_is_below ILLEGAL_STATE_EXCEPTION EXCEPTION ≡ true
unfolding class_is_below lineage_of parents_of class_row class_table
state_is = refl

null_there : (rules : Rules) (store : Store) → Fits rules store.objects → ThrowsThere (iterating.null_error store)
null_there rules store f = thrown_there rules (throws store NULL_POINTER_EXCEPTION None) (throws_fits rules store NULL_POINTER_EXCEPTION None f null_is)

receiver_there : (rules : Rules) (store : Store) (act : ℕ → Effect) (found : Option ℕ) → Fits rules store.objects → ((id : ℕ) → ThrowsThere (act id))
    → ThrowsThere (iterating.with_receiver store act found)
receiver_there rules store act None f h = null_there rules store f
receiver_there rules store act (Some id) f h = h id

joined_there : (rules : Rules) (store : Store) (receiver between : Option Value) → Fits rules store.objects → ThrowsThere (iterating.joined_by store receiver between)
joined_there rules store None between f = null_there rules store f
joined_there rules store (Some receiver) None f = null_there rules store f
joined_there rules store (Some receiver) (Some between) f = text_throws rules store (texts.does_numbered store.objects STRING_JOIN (between ∷ receiver ∷ [])) f

next_there : (rules : Rules) (store : Store) (id : ℕ) (found : Option Cursor) → Fits rules store.objects → ThrowsThere (iterating.next_is_there store id found)
next_there rules store id None f = null_there rules store f
next_there rules store id (Some it) f = tt

first_there : (rules : Rules) (store : Store) (found : Option Value) → Fits rules store.objects → ThrowsThere (iterating.first_of store found)
unfolding iterating.no_value
first_there rules store None f = thrown_there rules (throws store ILLEGAL_STATE_EXCEPTION _) (throws_fits rules store ILLEGAL_STATE_EXCEPTION _ f state_is)
first_there rules store (Some value) f = tt

iterable_there : (rules : Rules) (store : Store) (member : Member) (arguments : List Value) → Fits rules store.objects → ThrowsThere (iterables.does store member arguments)
iterable_there rules store m.Iterator arguments f =
    receiver_there rules store (iterators.iterate store) (object_at arguments 0) f (λ id. thrown_there rules (iterators.iterate store id) (iterate_fits rules store id f))
iterable_there rules store m.Join arguments f = joined_there rules store (slice_get arguments 0) (slice_get arguments 1) f
iterable_there rules store m.HasNext arguments f =
    receiver_there rules store (iterating.has_next_of store) (object_at arguments 0) f (λ id. next_there rules store id (iterators.iterator_of store.objects id) f)
iterable_there rules store m.Next arguments f =
    receiver_there rules store (iterators.next store) (object_at arguments 0) f (λ id. thrown_there rules (iterators.next store id) (next_fits rules store id f))
iterable_there rules store m.Remove arguments f =
    receiver_there rules store (iterators.remove store) (object_at arguments 0) f (λ id. thrown_there rules (iterators.remove store id) (remove_fits rules store id f))
iterable_there rules store m.GetValue arguments f =
    receiver_there rules store (iterating.first_value store) (object_at arguments 0) f (λ id. first_there rules store (slice_get (items_of store.objects id) 0) f)

found_there : (rules : Rules) (store : Store) (found : Option Member) (arguments : List Value) → Fits rules store.objects → ThrowsThere (iterables.does_found store found arguments)
found_there rules store None arguments f = tt
found_there rules store (Some member) arguments f = iterable_there rules store member arguments f

-- ---- all

family_there : (rules : Rules) (family : Family) (store : Store) (number : ℕ) (arguments : List Value) → Fits rules store.objects → ThrowsThere (act_of family store number arguments)
family_there rules Iterables store number arguments f = found_there rules store (iterables.numbered number) arguments f
family_there rules Lists store number arguments f = told_there rules store (lists.comes_to store.objects number arguments) f
family_there rules Maps store number arguments f = outcome_there rules store (maps.does_numbered store.objects number arguments) f

pub container_throws : (rules : Rules) (store : Store) (number : ℕ) (arguments : List Value) → Fits rules store.objects → ThrowsThere (does_container store number arguments)
container_throws rules store number arguments f = family_there rules (family_of (is_on_list store.objects arguments) number) store number arguments f
