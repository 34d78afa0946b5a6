-- A member of a container takes no object away and changes the kind of none.
use Rattle.std.proofs.Common.{◌≡◌, ◌==◌, ℕ, ◌+◌, true, nat_le, nat_lt, Option, Some, None, List, [], ◌∷◌, ◌++◌, length, take, drop, refl, sym, ap, eqb-true, slice_get}
use Rattle.std.specs.Prelude.{not}
use Rattle.std.proofs.lemmas.Bool.{cond_both}
use Rattle.pl_types.specs.declared.classes.TheConstants.{CONCURRENT_MODIFICATION_EXCEPTION, ILLEGAL_STATE_EXCEPTION, NO_SUCH_ELEMENT_EXCEPTION, NULL_POINTER_EXCEPTION, UNSUPPORTED_OPERATION_EXCEPTION}
use Rattle.object_values.specs.declared.object.Guard.{Guard}
use Rattle.object_values.specs.declared.object.Guard.TheVariants as g
use Rattle.object_values.specs.declared.object.Object.{Object}
use Rattle.object_values.specs.declared.object.Object.TheVariants as o
use Rattle.object_values.specs.declared.value.Value.{Value}
use Rattle.object_values.specs.declared.value.Value.TheVariants as v
use Rattle.object_heap.specs.Effects.{Effect}
use Rattle.object_heap.specs.Effects as e
use Rattle.object_heap.specs.Fits.{kinds}
use Rattle.object_heap.specs.Objects.{changed_by, AList, AMap, ASet, kind_of, renewed_by, with_all_inserted, with_all_put, with_inserted, with_item, with_key_cut, with_pair_cut, with_put, with_removed}
use Rattle.object_heap.specs.Parts.{items_of, open_at, size_of}
use Rattle.object_heap.specs.Store.{Store, with_change}
use Rattle.member_arguments.specs.Arguments.{object_at}
use Rattle.api_map.specs.Equality.{value_now}
use Rattle.api_iter.specs.Containers.{changes_now, container_of, count_of, lets_cut}
use Rattle.api_iter.specs.Iterators as iterators
use Rattle.api_iter.specs.container_parts_declared.containers.Container.{Container}
use Rattle.api_iter.specs.container_parts_declared.containers.Container.TheVariants as c
use Rattle.api_iter.specs.container_parts_declared.cursors.Cursor.{Cursor}
use Rattle.api_iter.specs.container_parts_declared.elements.Element.{Element}
use Rattle.api_iter.specs.container_parts_declared.elements.Element.TheVariants as element
use Rattle.api_map.specs.Elements.{entries_of, entry_references}
use Rattle.api_map.specs.container_outcomes_declared.outcome.Outcome.{Outcome}
use Rattle.api_map.specs.container_outcomes_declared.outcome.Outcome.TheVariants as outcome
use Rattle.api_map.specs.Outcomes as outcomes
use Rattle.api_iter.specs.ApiTextMembers as texts
use Rattle.api_iter.specs.declared.joining.TheConstants.{STRING_JOIN}
use Rattle.api_iter.specs.declared.member.Member.{Member}
use Rattle.api_iter.specs.declared.member.Member.TheVariants as m
use Rattle.api_iter.specs.Iterating as iterating
use Rattle.api_iter.specs.Members as iterables
use Rattle.api_list.specs.Members as lists
use Rattle.api_list.specs.Taking as taking
use Rattle.api_list.specs.declared.told.Told.{Told}
use Rattle.api_list.specs.declared.told.Told.TheVariants.{Says, Enters}
use Rattle.api_map.specs.Members as maps
use Rattle.container_calls.specs.declared.family.Family.{Family}
use Rattle.container_calls.specs.declared.family.Family.TheVariants.{Iterables, Lists, Maps}
use Rattle.container_calls.specs.Members.{act_of, does_container, family_of, is_on_list}
use Rattle.container_calls.specs.Laws.{EffectLeaves}
use Rattle.container_calls.proofs.LeavingTexts.{text_member_leaves}
use Rattle.container_calls.proofs.There.{kinds-changed, paid_leaves, text_leaves, there_added, there_behind, there_both, there_changed, there_refl, there_then, throw_leaves}

-- ---- changes keep the kind

inserted_kind : (at : ℕ) (item : Value) (object : Object) → kind_of (with_inserted at item object) ≡ kind_of object
inserted_kind at item (o.List class items guard changes) = cond_both (nat_le at (length items)) _ _ (λ x. kind_of x ≡ AList class) (λ _. refl) (λ _. refl)
inserted_kind at item object = refl

all_inserted_kind : (at : ℕ) (items : List Value) (object : Object) → kind_of (with_all_inserted at items object) ≡ kind_of object
all_inserted_kind at more (o.List class items guard changes) = cond_both (nat_le at (length items)) _ _ (λ x. kind_of x ≡ AList class) (λ _. refl) (λ _. refl)
all_inserted_kind at more object = refl

removed_kind : (at : ℕ) (object : Object) → kind_of (with_removed at object) ≡ kind_of object
removed_kind at (o.List class items guard changes) = cond_both (nat_lt at (length items)) _ _ (λ x. kind_of x ≡ AList class) (λ _. refl) (λ _. refl)
removed_kind at object = refl

item_kind : (at : ℕ) (item : Value) (object : Object) → kind_of (with_item at item object) ≡ kind_of object
item_kind at item (o.List class items guard changes) = refl
item_kind at item (o.Array elem items) = refl
item_kind at item object = refl

put_kind : (key value : Value) (object : Object) → kind_of (with_put key value object) ≡ kind_of object
put_kind key value (o.Map class pairs guard changes) = refl
put_kind key value (o.Set class items guard changes) = refl
put_kind key value object = refl

all_put_kind : (more : List (Value × Value)) (object : Object) → kind_of (with_all_put more object) ≡ kind_of object
all_put_kind more (o.Map class pairs guard changes) = refl
all_put_kind more (o.Set class items guard changes) = refl
all_put_kind more object = refl

key_cut_kind : (key : Value) (object : Object) → kind_of (with_key_cut key object) ≡ kind_of object
key_cut_kind key (o.Map class pairs guard changes) = refl
key_cut_kind key (o.Set class items guard changes) = refl
key_cut_kind key object = refl

pair_cut_kind : (at : ℕ) (object : Object) → kind_of (with_pair_cut at object) ≡ kind_of object
pair_cut_kind at (o.Map class pairs guard changes) = refl
pair_cut_kind at (o.Set class items guard changes) = refl
pair_cut_kind at object = refl

renewed_list : (class : ℕ) (items : List Value) (guard : Guard) (changes : ℕ) (object : Object) → kind_of (renewed_by (o.List class items guard changes) object) ≡ kind_of object
renewed_list class items guard changes (o.List before more held count) =
    cond_both (before == class) _ _ (λ x. kind_of x ≡ AList before) (λ e. ap AList (sym (eqb-true before class e))) (λ _. refl)
renewed_list class items guard changes object = refl

renewed_map : (class : ℕ) (pairs : List (Value × Value)) (guard : Guard) (changes : ℕ) (object : Object) → kind_of (renewed_by (o.Map class pairs guard changes) object) ≡ kind_of object
renewed_map class pairs guard changes (o.Map before more held count) =
    cond_both (before == class) _ _ (λ x. kind_of x ≡ AMap before) (λ e. ap AMap (sym (eqb-true before class e))) (λ _. refl)
renewed_map class pairs guard changes object = refl

renewed_set : (class : ℕ) (items : List (Value × Value)) (guard : Guard) (changes : ℕ) (object : Object) → kind_of (renewed_by (o.Set class items guard changes) object) ≡ kind_of object
renewed_set class items guard changes (o.Set before more held count) =
    cond_both (before == class) _ _ (λ x. kind_of x ≡ ASet before) (λ e. ap ASet (sym (eqb-true before class e))) (λ _. refl)
renewed_set class items guard changes object = refl

-- ---- outcomes

-- a change that is paid, and one that is free
paid_change : (store : Store) (id : ℕ) (change : Object → Object) (value : Value) → ((object : Object) → kind_of (change object) ≡ kind_of object)
    → EffectLeaves store.objects (e.gives_paid store (with_change store.objects id change) value)
paid_change store id change value h = paid_leaves store (with_change store.objects id change) 0 (λ paid. e.Gives value paid) (λ room. there_changed store.objects id change h)

renewed_leaves : (store : Store) (id : ℕ) (object : Object) (value : Value) → EffectLeaves store.objects (outcomes.gives_renewed store id object value)
renewed_leaves store id (o.List class items guard changes) value = paid_change store id (renewed_by (o.List class items guard changes)) value (renewed_list class items guard changes)
renewed_leaves store id (o.Map class pairs guard changes) value = paid_change store id (renewed_by (o.Map class pairs guard changes)) value (renewed_map class pairs guard changes)
renewed_leaves store id (o.Set class items guard changes) value = paid_change store id (renewed_by (o.Set class items guard changes)) value (renewed_set class items guard changes)
renewed_leaves store id object value = there_refl store.objects

outcome_leaves : (store : Store) (told : Outcome) → EffectLeaves store.objects (outcomes.effect store told)
outcome_leaves store (outcome.Gives value) = there_refl store.objects
outcome_leaves store (outcome.Writes text) = text_leaves store text
outcome_leaves store (outcome.New object) = paid_leaves store (store.objects ++ object ∷ []) 0 (λ paid. e.Gives (v.Ref (length store.objects)) paid) (λ room. there_added store.objects (object ∷ []))
outcome_leaves store (outcome.Makes before object) =
    paid_leaves store (store.objects ++ before ++ object ∷ []) 0 (λ paid. e.Gives (v.Ref (length store.objects + length before)) paid) (λ room. there_behind store.objects before (object ∷ []))
outcome_leaves store (outcome.Inserts id at item value) = paid_change store id (with_inserted at item) value (inserted_kind at item)
outcome_leaves store (outcome.Extends id at items value) = paid_change store id (with_all_inserted at items) value (all_inserted_kind at items)
outcome_leaves store (outcome.Sets id at item) = there_changed store.objects id (with_item at item) (item_kind at item)
outcome_leaves store (outcome.SetsTwo id at item other_at other) =
    there_both store.objects (with_change store.objects id (with_item at item)) (with_change (with_change store.objects id (with_item at item)) id (with_item other_at other))
    (kinds-changed store.objects id (with_item at item) (item_kind at item)) (there_changed (with_change store.objects id (with_item at item)) id (with_item other_at other) (item_kind other_at other))
outcome_leaves store (outcome.Cuts id at) = there_changed store.objects id (with_removed at) (removed_kind at)
outcome_leaves store (outcome.Drops id at) = there_changed store.objects id (with_removed at) (removed_kind at)
outcome_leaves store (outcome.Puts id key value) = paid_change store id (with_put key value) (value_now store.objects id key) (put_kind key value)
outcome_leaves store (outcome.Adds id key) = paid_change store id (with_put key v.Null) (v.Bool (not (outcomes.has_key store.objects id key))) (put_kind key v.Null)
outcome_leaves store (outcome.PutsAll id pairs) = paid_change store id (with_all_put pairs) v.Null (all_put_kind pairs)
outcome_leaves store (outcome.AddsAll id keys) =
    paid_leaves store (with_change store.objects id (with_all_put keys)) 0 (λ paid. e.Gives (v.Bool (nat_lt (size_of store.objects id) (size_of paid.objects id))) paid)
    (λ room. there_changed store.objects id (with_all_put keys) (all_put_kind keys))
outcome_leaves store (outcome.CutsKey id key) = there_changed store.objects id (with_key_cut key) (key_cut_kind key)
outcome_leaves store (outcome.DropsKey id key) = there_changed store.objects id (with_key_cut key) (key_cut_kind key)
outcome_leaves store (outcome.DropsEntry id key) = there_changed store.objects id (with_key_cut key) (key_cut_kind key)
outcome_leaves store (outcome.CutsPair id at) = there_changed store.objects id (with_pair_cut at) (pair_cut_kind at)
outcome_leaves store (outcome.Empties id object) = renewed_leaves store id object v.Null
outcome_leaves store (outcome.Becomes id object value) = renewed_leaves store id object value
outcome_leaves store (outcome.Throws raised message) = throw_leaves store (outcomes.number_of raised) message
outcome_leaves store outcome.NoMemory = there_refl store.objects

-- ---- entries that go into a list

entered_leaves : (store : Store) (list at : ℕ) (more : List Value) (container : Container) (found : Option Object) → EffectLeaves store.objects (taking.entered_as store list container (taking.grown at more found))
entered_leaves store list at more container None = there_refl store.objects
entered_leaves store list at more container (Some (o.List class items guard changes)) =
    let all : List Object = store.objects ++ entries_of store.objects container in
    let grown : Object = o.List class (take at items ++ more ++ drop at items) g.Open (changed_by changes (length more)) in
    paid_leaves store (with_change all list (renewed_by grown)) 0 (λ paid. e.Gives (v.Bool true) paid)
    (λ room. there_then store.objects all (with_change all list (renewed_by grown)) (there_added store.objects (entries_of store.objects container))
    (kinds-changed all list (renewed_by grown) (renewed_list class (take at items ++ more ++ drop at items) g.Open (changed_by changes (length more)))))
entered_leaves store list at more container (Some object) = there_refl store.objects

told_leaves : (store : Store) (told : Told) → EffectLeaves store.objects (taking.told_effect store told)
told_leaves store (Says told) = outcome_leaves store told
told_leaves store (Enters list at container) = entered_leaves store list at (entry_references store.objects container) container (open_at store.objects list)

-- ---- iterators

null_leaves : (store : Store) → EffectLeaves store.objects (iterating.null_error store)
null_leaves store = throw_leaves store NULL_POINTER_EXCEPTION None

receiver_leaves : (store : Store) (act : ℕ → Effect) (found : Option ℕ) → ((id : ℕ) → EffectLeaves store.objects (act id)) → EffectLeaves store.objects (iterating.with_receiver store act found)
receiver_leaves store act None h = null_leaves store
receiver_leaves store act (Some id) h = h id

iterate_leaves : (store : Store) (id : ℕ) (over : Option Container) → EffectLeaves store.objects (iterators.iterate_over store id over)
iterate_leaves store id None = null_leaves store
iterate_leaves store id (Some over) =
    paid_leaves store (store.objects ++ o.Iter id 0 (changes_now store.objects over) None ∷ []) 0 (λ paid. e.Gives (v.Ref (length store.objects)) paid)
    (λ room. there_added store.objects (o.Iter id 0 (changes_now store.objects over) None ∷ []))

-- an iterator that is renewed stays one
iterator_kind : (over cursor seen : ℕ) (last : Option ℕ) (object : Object) → kind_of (renewed_by (o.Iter over cursor seen last) object) ≡ kind_of object
iterator_kind over cursor seen last (o.Iter before at count given) = refl
iterator_kind over cursor seen last object = refl

given_leaves : (store : Store) (id : ℕ) (it : Cursor) (found : Option Element) → EffectLeaves store.objects (iterators.given store id it found)
given_leaves store id it None = throw_leaves store CONCURRENT_MODIFICATION_EXCEPTION None
given_leaves store id it (Some (element.There value)) = there_changed store.objects id (renewed_by (iterators.moved it)) (iterator_kind _ _ _ _)
given_leaves store id it (Some (element.Entry map key)) =
    paid_leaves store (store.objects ++ o.Entry map key ∷ []) 0 (λ paid. e.Gives (v.Ref (length store.objects)) (iterators.with_iterator paid id (iterators.moved it)))
    (λ room. there_then store.objects (store.objects ++ o.Entry map key ∷ []) (with_change (store.objects ++ o.Entry map key ∷ []) id (renewed_by (iterators.moved it)))
    (there_added store.objects (o.Entry map key ∷ [])) (kinds-changed (store.objects ++ o.Entry map key ∷ []) id (renewed_by (iterators.moved it)) (iterator_kind _ _ _ _)))

next_leaves : (store : Store) (id : ℕ) (found : Option Cursor) → EffectLeaves store.objects (iterators.next_of store id found)
next_leaves store id None = null_leaves store
next_leaves store id (Some it) =
    cond_both (it.cursor == iterators.count_over store.objects (container_of store.objects it.over)) _ _ (EffectLeaves store.objects) (λ _. throw_leaves store NO_SUCH_ELEMENT_EXCEPTION None)
    (λ _. cond_both (it.seen == iterators.changes_over store.objects (container_of store.objects it.over)) _ _ (EffectLeaves store.objects)
    (λ _. given_leaves store id it (iterators.element_over store.objects (container_of store.objects it.over) it.cursor))
    (λ _. throw_leaves store CONCURRENT_MODIFICATION_EXCEPTION None))

kinds_without : (store : Store) (over : Container) (at : ℕ) → kinds (iterators.without_element store over at).objects ≡ kinds store.objects
kinds_without store (c.Items list) at = kinds-changed store.objects list (with_removed at) (removed_kind at)
kinds_without store (c.Array array) at = refl
kinds_without store (c.Keys set) at = kinds-changed store.objects set (with_pair_cut at) (pair_cut_kind at)
kinds_without store (c.Shown map part) at = kinds-changed store.objects map (with_pair_cut at) (pair_cut_kind at)

taken_leaves : (store : Store) (id : ℕ) (it : Cursor) (over : Container) (at : ℕ) → EffectLeaves store.objects (iterators.taken_out store id it over at)
taken_leaves store id it over at =
    there_both store.objects (iterators.without_element store over at).objects (with_change (iterators.without_element store over at).objects id (renewed_by (iterators.moved_back it at)))
    (kinds_without store over at) (there_changed (iterators.without_element store over at).objects id (renewed_by (iterators.moved_back it at)) (iterator_kind _ _ _ _))

last_leaves : (store : Store) (id : ℕ) (it : Cursor) (over : Container) (last : Option ℕ) → EffectLeaves store.objects (iterators.taken_if_there store id it over last)
last_leaves store id it over None = throw_leaves store ILLEGAL_STATE_EXCEPTION _
last_leaves store id it over (Some at) =
    cond_both (it.seen == changes_now store.objects over) _ _ (EffectLeaves store.objects)
    (λ _. cond_both (nat_lt at (count_of store.objects over)) _ _ (EffectLeaves store.objects) (λ _. taken_leaves store id it over at) (λ _. throw_leaves store CONCURRENT_MODIFICATION_EXCEPTION None))
    (λ _. throw_leaves store CONCURRENT_MODIFICATION_EXCEPTION None)

remove_over_leaves : (store : Store) (id : ℕ) (it : Cursor) (over : Option Container) → EffectLeaves store.objects (iterators.remove_over store id it over)
remove_over_leaves store id it None = throw_leaves store UNSUPPORTED_OPERATION_EXCEPTION None
remove_over_leaves store id it (Some over) =
    cond_both (lets_cut store.objects over) _ _ (EffectLeaves store.objects) (λ _. last_leaves store id it over it.last) (λ _. throw_leaves store UNSUPPORTED_OPERATION_EXCEPTION None)

remove_leaves : (store : Store) (id : ℕ) (found : Option Cursor) → EffectLeaves store.objects (iterators.remove_of store id found)
remove_leaves store id None = null_leaves store
remove_leaves store id (Some it) = remove_over_leaves store id it (container_of store.objects it.over)

-- ---- members of Iterable, Iterator and ScriptDocValues

joined_leaves : (store : Store) (receiver between : Option Value) → EffectLeaves store.objects (iterating.joined_by store receiver between)
joined_leaves store None between = null_leaves store
joined_leaves store (Some receiver) None = null_leaves store
joined_leaves store (Some receiver) (Some between) = text_member_leaves store (texts.does_numbered store.objects STRING_JOIN (between ∷ receiver ∷ []))

is_there_leaves : (store : Store) (id : ℕ) (found : Option Cursor) → EffectLeaves store.objects (iterating.next_is_there store id found)
is_there_leaves store id None = null_leaves store
is_there_leaves store id (Some it) = there_refl store.objects

first_leaves : (store : Store) (found : Option Value) → EffectLeaves store.objects (iterating.first_of store found)
unfolding iterating.no_value
first_leaves store None = throw_leaves store ILLEGAL_STATE_EXCEPTION _
first_leaves store (Some value) = there_refl store.objects

iterable_leaves : (store : Store) (member : Member) (arguments : List Value) → EffectLeaves store.objects (iterables.does store member arguments)
iterable_leaves store m.Iterator arguments = receiver_leaves store (iterators.iterate store) (object_at arguments 0) (λ id. iterate_leaves store id (container_of store.objects id))
iterable_leaves store m.Join arguments = joined_leaves store (slice_get arguments 0) (slice_get arguments 1)
iterable_leaves store m.HasNext arguments =
    receiver_leaves store (iterating.has_next_of store) (object_at arguments 0) (λ id. is_there_leaves store id (iterators.iterator_of store.objects id))
iterable_leaves store m.Next arguments = receiver_leaves store (iterators.next store) (object_at arguments 0) (λ id. next_leaves store id (iterators.iterator_of store.objects id))
iterable_leaves store m.Remove arguments = receiver_leaves store (iterators.remove store) (object_at arguments 0) (λ id. remove_leaves store id (iterators.iterator_of store.objects id))
iterable_leaves store m.GetValue arguments = receiver_leaves store (iterating.first_value store) (object_at arguments 0) (λ id. first_leaves store (slice_get (items_of store.objects id) 0))

found_leaves : (store : Store) (found : Option Member) (arguments : List Value) → EffectLeaves store.objects (iterables.does_found store found arguments)
found_leaves store None arguments = there_refl store.objects
found_leaves store (Some member) arguments = iterable_leaves store member arguments

-- ---- all

family_leaves : (family : Family) (store : Store) (number : ℕ) (arguments : List Value) → EffectLeaves store.objects (act_of family store number arguments)
family_leaves Iterables store number arguments = found_leaves store (iterables.numbered number) arguments
family_leaves Lists store number arguments = told_leaves store (lists.comes_to store.objects number arguments)
family_leaves Maps store number arguments = outcome_leaves store (maps.does_numbered store.objects number arguments)

pub container_leaves : (store : Store) (number : ℕ) (arguments : List Value) → EffectLeaves store.objects (does_container store number arguments)
container_leaves store number arguments = family_leaves (family_of (is_on_list store.objects arguments) number) store number arguments
