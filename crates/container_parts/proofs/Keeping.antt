-- What comes of a step of an iterator fits.
use Rattle.std.proofs.Common.{◌≡◌, ℕ, zero, suc, ◌==◌, nat_lt, Bool, true, false, Option, Some, None, List, [], ◌∷◌, ◌++◌, length, refl, sym, subst, ap, arith, length-append, slice_get, remove, if◌then◌else◌, ◌∙◌}
use Rattle.std.proofs.Math.ListN.{length-set}
use Rattle.pl_types.specs.declared.classes.TheConstants.{CONCURRENT_MODIFICATION_EXCEPTION, ILLEGAL_STATE_EXCEPTION, NO_SUCH_ELEMENT_EXCEPTION, NULL_POINTER_EXCEPTION, UNSUPPORTED_OPERATION_EXCEPTION}
use Rattle.pl_types.specs.Classes.{class_is_below, lineage_of, parents_of, class_row, class_table}
use Rattle.object_values.specs.declared.object.Object.{Object}
use Rattle.object_values.specs.declared.object.Object.TheVariants as o
use Rattle.object_values.specs.declared.value.Value.{Value}
use Rattle.object_values.specs.declared.value.Value.TheVariants as v
use Rattle.object_heap.specs.Effects as effects
use Rattle.object_heap.specs.Fits.{Rules, Fits, ValueFits, EffectFits, can_iterate, kinds, passes}
use Rattle.object_heap.specs.Objects.{Kind, AList, kind_of, changed, renewed_by, with_pair_cut, with_removed}
use Rattle.object_heap.specs.Store.{Store, changed_at, changed_one, with_change}
use Rattle.object_heap.proofs.Fitting.{added_fits, cut_fits, map_cut_at_fits, renew_fits}
use Rattle.object_heap.proofs.Fronting.{whether}
use Rattle.object_heap.proofs.Growth.{cons_changed}
use Rattle.object_heap.proofs.Keeping.{after_fits, throws_fits}
use Rattle.container_parts.specs.Containers.{changes_now, container_of, count_of, lets_cut}
use Rattle.container_parts.specs.Iterators as spec
use Rattle.container_parts.specs.declared.containers.Container.{Container}
use Rattle.container_parts.specs.declared.containers.Container.TheVariants as c
use Rattle.container_parts.specs.declared.cursors.Cursor.{Cursor}
use Rattle.container_parts.specs.declared.elements.Element.{Element}
use Rattle.container_parts.specs.declared.elements.Element.TheVariants as e
use Rattle.container_parts.proofs.Standing.{ContainerFits, FoundFits, container_fits, element_fits, iterates, stands_over}

-- exceptions
concurrent_fits : (rules : Rules) (store : Store) → Fits rules store.objects → EffectFits rules (spec.fails store CONCURRENT_MODIFICATION_EXCEPTION)
unfolding class_is_below lineage_of parents_of class_row class_table
concurrent_fits rules store f = throws_fits rules store CONCURRENT_MODIFICATION_EXCEPTION None f refl

no_such_fits : (rules : Rules) (store : Store) → Fits rules store.objects → EffectFits rules (spec.fails store NO_SUCH_ELEMENT_EXCEPTION)
unfolding class_is_below lineage_of parents_of class_row class_table
no_such_fits rules store f = throws_fits rules store NO_SUCH_ELEMENT_EXCEPTION None f refl

null_fits : (rules : Rules) (store : Store) → Fits rules store.objects → EffectFits rules (spec.fails store NULL_POINTER_EXCEPTION)
unfolding class_is_below lineage_of parents_of class_row class_table
null_fits rules store f = throws_fits rules store NULL_POINTER_EXCEPTION None f refl

unsupported_fits : (rules : Rules) (store : Store) → Fits rules store.objects → EffectFits rules (spec.fails store UNSUPPORTED_OPERATION_EXCEPTION)
unfolding class_is_below lineage_of parents_of class_row class_table
unsupported_fits rules store f = throws_fits rules store UNSUPPORTED_OPERATION_EXCEPTION None f refl

state_fits : (rules : Rules) (store : Store) (message : Option (List ℕ)) → Fits rules store.objects → EffectFits rules (effects.throws store ILLEGAL_STATE_EXCEPTION message)
unfolding class_is_below lineage_of parents_of class_row class_table
state_fits rules store message f = throws_fits rules store ILLEGAL_STATE_EXCEPTION message f refl

-- choices
if_fits : (rules : Rules) (test : Bool) (a b : effects.Effect) → EffectFits rules a → EffectFits rules b → EffectFits rules (if test then a else b)
if_fits rules true a b h k = h
if_fits rules false a b h k = k

-- changes keep how many objects there are
length_changed : (objects : List Object) (id : ℕ) (change : Object → Object) (found : Option Object) → length (changed_at objects id change found) ≡ length objects
length_changed objects id change None = refl
length_changed objects id change (Some object) = length-set objects id (change object)

still_fits : (objects : List Object) (id : ℕ) (change : Object → Object) (value : Value) → ValueFits (length objects) value → ValueFits (length (with_change objects id change)) value
still_fits objects id change value h =
    whether objects id change (λ (after : List Object). ValueFits (length after) value) h (subst (λ (n : ℕ). ValueFits n value) (sym (length_changed objects id change (slice_get objects id))) h)

-- what may be iterated stays so behind a further object, and where the kinds are the same
iterates_more : (objects : List Object) (object : Object) (id : ℕ) → passes can_iterate (slice_get (kinds objects) id) ≡ true → passes can_iterate (slice_get (kinds (objects ++ object ∷ [])) id) ≡ true
iterates_more [] object id h = cc
iterates_more (x ∷ objects) object zero h = h
iterates_more (x ∷ objects) object (suc id) h = iterates_more objects object id h

one_same : (objects : List Object) (id : ℕ) (change : Object → Object) → ((object : Object) → kind_of (change object) ≡ kind_of object) → kinds (changed_one objects id change) ≡ kinds objects
one_same [] id change h = refl
one_same (x ∷ objects) zero change h = ap (λ (k : Kind). k ∷ kinds objects) (h x)
one_same (x ∷ objects) (suc id) change h =
    ap kinds (cons_changed x objects id change (slice_get objects id)) ∙ ap (λ (ks : List Kind). kind_of x ∷ ks) (one_same objects id change h)

kinds_same : (objects : List Object) (id : ℕ) (change : Object → Object) → ((object : Object) → kind_of (change object) ≡ kind_of object) → kinds (with_change objects id change) ≡ kinds objects
kinds_same objects id change h = whether objects id change (λ (after : List Object). kinds after ≡ kinds objects) refl (one_same objects id change h)

kind_removed : (at : ℕ) (object : Object) → kind_of (with_removed at object) ≡ kind_of object
kind_removed at (o.List class items guard changes) =
    elim (nat_lt at (length items)) as (λ b. kind_of (if b then o.List class (remove items at) guard (changed changes) else o.List class items guard changes) ≡ AList class)
    [ true ↦ refl | false ↦ refl ]
kind_removed at object = refl

kind_cut : (at : ℕ) (object : Object) → kind_of (with_pair_cut at object) ≡ kind_of object
kind_cut at (o.Map class pairs guard changes) = refl
kind_cut at (o.Set class items guard changes) = refl
kind_cut at object = refl

-- next
given_fits : (rules : Rules) (store : Store) (id : ℕ) (it : Cursor) (found : Option Element) → Fits rules store.objects → passes can_iterate (slice_get (kinds store.objects) it.over) ≡ true
    → FoundFits (length store.objects) (kinds store.objects) found → EffectFits rules (spec.given store id it found)
given_fits rules store id it None f h g = concurrent_fits rules store f
given_fits rules store id it (Some (e.There value)) f h g =
    (renew_fits rules store.objects id (spec.moved it) f h, still_fits store.objects id (renewed_by (spec.moved it)) value g)
given_fits rules store id it (Some (e.Entry map key)) f h g =
    let objects : List Object = store.objects ++ o.Entry map key ∷ [] in
    after_fits rules store objects 0 (λ paid. effects.Gives (v.Ref (length store.objects)) (spec.with_iterator paid id (spec.moved it)))
    (λ room. (
      renew_fits rules objects id (spec.moved it) (added_fits rules store.objects (o.Entry map key) f g) (iterates_more store.objects (o.Entry map key) it.over h),
      still_fits objects id (renewed_by (spec.moved it)) (v.Ref (length store.objects)) (omega (arith, length-append store.objects (o.Entry map key ∷ []))),
    ))

next_over_fits : (rules : Rules) (store : Store) (id : ℕ) (it : Cursor) (over : Option Container) → Fits rules store.objects → passes can_iterate (slice_get (kinds store.objects) it.over) ≡ true
    → ContainerFits (kinds store.objects) over → EffectFits rules (spec.next_over store id it over)
next_over_fits rules store id it over f h g =
    if_fits rules (it.cursor == spec.count_over store.objects over) _ _ (no_such_fits rules store f)
    (if_fits rules (it.seen == spec.changes_over store.objects over) _ _
    (given_fits rules store id it (spec.element_over store.objects over it.cursor) f h (element_fits rules store.objects over it.cursor f g))
    (concurrent_fits rules store f))

next_of_fits : (rules : Rules) (store : Store) (id : ℕ) (found : Option Cursor) → spec.iterator_of store.objects id ≡ found → Fits rules store.objects → EffectFits rules (spec.next_of store id found)
next_of_fits rules store id None is f = null_fits rules store f
next_of_fits rules store id (Some it) is f = next_over_fits rules store id it (container_of store.objects it.over) f (stands_over rules store.objects id it f is) (container_fits rules store.objects it.over f)

pub next_fits : (rules : Rules) (store : Store) (id : ℕ) → Fits rules store.objects → EffectFits rules (spec.next store id)
next_fits rules store id f = next_of_fits rules store id (spec.iterator_of store.objects id) refl f

-- remove
renewed_fits : (rules : Rules) (objects before : List Object) (room id at : ℕ) (it : Cursor) → Fits rules objects → kinds objects ≡ kinds before → passes can_iterate (slice_get (kinds before) it.over) ≡ true
    → EffectFits rules (effects.Gives v.Null (spec.with_iterator (record { objects = objects; room = room }) id (spec.moved_back it at)))
renewed_fits rules objects before room id at it f same h =
    (renew_fits rules objects id (spec.moved_back it at) f (subst (λ (ks : List Kind). passes can_iterate (slice_get ks it.over) ≡ true) (sym same) h), tt)

taken_out_fits : (rules : Rules) (store : Store) (id : ℕ) (it : Cursor) (over : Container) (at : ℕ) → Fits rules store.objects → passes can_iterate (slice_get (kinds store.objects) it.over) ≡ true
    → EffectFits rules (spec.taken_out store id it over at)
taken_out_fits rules store id it (c.Items list) at f h =
    renewed_fits rules (with_change store.objects list (with_removed at)) store.objects store.room id at it (cut_fits rules store.objects list at f) (kinds_same store.objects list (with_removed at) (kind_removed at)) h
taken_out_fits rules store id it (c.Array array) at f h = renewed_fits rules store.objects store.objects store.room id at it f refl h
taken_out_fits rules store id it (c.Keys set) at f h =
    renewed_fits rules (with_change store.objects set (with_pair_cut at)) store.objects store.room id at it (map_cut_at_fits rules store.objects set at f) (kinds_same store.objects set (with_pair_cut at) (kind_cut at)) h
taken_out_fits rules store id it (c.Shown map part) at f h =
    renewed_fits rules (with_change store.objects map (with_pair_cut at)) store.objects store.room id at it (map_cut_at_fits rules store.objects map at f) (kinds_same store.objects map (with_pair_cut at) (kind_cut at)) h

taken_fits : (rules : Rules) (store : Store) (id : ℕ) (it : Cursor) (over : Container) (last : Option ℕ) → Fits rules store.objects → passes can_iterate (slice_get (kinds store.objects) it.over) ≡ true
    → EffectFits rules (spec.taken_if_there store id it over last)
taken_fits rules store id it over None f h = state_fits rules store _ f
taken_fits rules store id it over (Some at) f h =
    if_fits rules (it.seen == changes_now store.objects over) _ _
    (if_fits rules (nat_lt at (count_of store.objects over)) _ _ (taken_out_fits rules store id it over at f h) (concurrent_fits rules store f))
    (concurrent_fits rules store f)

remove_over_fits : (rules : Rules) (store : Store) (id : ℕ) (it : Cursor) (over : Option Container) → Fits rules store.objects → passes can_iterate (slice_get (kinds store.objects) it.over) ≡ true
    → EffectFits rules (spec.remove_over store id it over)
remove_over_fits rules store id it None f h = unsupported_fits rules store f
remove_over_fits rules store id it (Some over) f h = if_fits rules (lets_cut store.objects over) _ _ (taken_fits rules store id it over it.last f h) (unsupported_fits rules store f)

remove_of_fits : (rules : Rules) (store : Store) (id : ℕ) (found : Option Cursor) → spec.iterator_of store.objects id ≡ found → Fits rules store.objects → EffectFits rules (spec.remove_of store id found)
remove_of_fits rules store id None is f = null_fits rules store f
remove_of_fits rules store id (Some it) is f = remove_over_fits rules store id it (container_of store.objects it.over) f (stands_over rules store.objects id it f is)

pub remove_fits : (rules : Rules) (store : Store) (id : ℕ) → Fits rules store.objects → EffectFits rules (spec.remove store id)
remove_fits rules store id f = remove_of_fits rules store id (spec.iterator_of store.objects id) refl f

-- iterator
iterate_over_fits : (rules : Rules) (store : Store) (id : ℕ) (found : Option Container) → container_of store.objects id ≡ found → Fits rules store.objects → EffectFits rules (spec.iterate_over store id found)
iterate_over_fits rules store id None is f = null_fits rules store f
iterate_over_fits rules store id (Some over) is f =
    let it : Object = o.Iter id 0 (changes_now store.objects over) None in
    after_fits rules store (store.objects ++ it ∷ []) 0 (λ paid. effects.Gives (v.Ref (length store.objects)) paid)
    (λ room. (added_fits rules store.objects it f (iterates id store.objects id over is), omega (arith, length-append store.objects (it ∷ []))))

pub iterate_fits : (rules : Rules) (store : Store) (id : ℕ) → Fits rules store.objects → EffectFits rules (spec.iterate store id)
iterate_fits rules store id f = iterate_over_fits rules store id (container_of store.objects id) refl f
