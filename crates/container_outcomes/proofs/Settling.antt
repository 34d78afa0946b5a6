-- What is paid for an outcome that fits leaves a store that fits.
use Rattle.std.proofs.Common.{◌≡◌, ℕ, zero, suc, ◌+◌, nat_lt, true, not, Option, Some, None, List, [], ◌∷◌, ◌++◌, length, refl, sym, subst, arith, length-append, slice_get, if◌then◌else◌}
use Rattle.std.proofs.Math.ListN.{length-set}
use Rattle.std.proofs.lemmas.Bool.{cond_both}
use Rattle.pl_types.specs.declared.classes.TheConstants.{EXCEPTION}
use Rattle.pl_types.specs.Classes.{class_is_below, lineage_of, parents_of, class_row, class_table}
use Rattle.object_values.specs.declared.object.Object.{Object}
use Rattle.object_values.specs.declared.object.Object.TheVariants as o
use Rattle.object_values.specs.declared.value.Value.{Value}
use Rattle.object_values.specs.declared.value.Value.TheVariants as v
use Rattle.object_values.specs.Pairs.{value_of}
use Rattle.object_heap.specs.Effects as e
use Rattle.object_heap.specs.Fits.{Rules, Fits, ValueFits, AllFit, ObjectFits, ObjectsFit, EffectFits, kinds}
use Rattle.object_heap.specs.Objects.{Kind, renewed_by, with_all_inserted, with_all_put, with_inserted, with_item, with_key_cut, with_put, with_removed}
use Rattle.object_heap.specs.Parts.{frozen_of, items_of, list_items, list_items_of, open_items_of, open_list_items_of, pairs_of, size_of}
use Rattle.object_heap.specs.Store.{Store, changed_at, with_change}
use Rattle.object_heap.proofs.Fitting.{added_fits, cut_fits, extend_fits, grow_fits, items_fit, length-kinds, map_cut_at_fits, map_cut_fits, map_extend_fits, map_put_fits, put_fits, renew_fits, values_fit}
use Rattle.object_heap.proofs.Fronting.{whether}
use Rattle.object_heap.proofs.Keeping.{after_fits, throws_fits}
use Rattle.value_walks.specs.Equality.{value_now, value_or}
use Rattle.container_outcomes.specs.declared.outcome.Raised.{Raised}
use Rattle.container_outcomes.specs.declared.outcome.Raised.TheVariants as raised
use Rattle.container_outcomes.specs.declared.outcome.Outcome.{Outcome}
use Rattle.container_outcomes.specs.declared.outcome.Outcome.TheVariants as outcome
use Rattle.container_outcomes.specs.Laws.{OutcomeFits}
use Rattle.container_outcomes.specs.Outcomes.{effect, gives_made, gives_new, gives_renewed, has_key, is_collection, item_out, key_out, list_item_out, number_of}

class_is : (r : Raised) → class_is_below (number_of r) EXCEPTION ≡ true
unfolding class_is_below lineage_of parents_of class_row class_table
class_is raised.ArrayIndexOutOfBounds = refl
class_is raised.ClassCast = refl
class_is raised.ConcurrentModification = refl
class_is raised.IllegalArgument = refl
class_is raised.IllegalState = refl
class_is raised.IndexOutOfBounds = refl
class_is raised.NoSuchElement = refl
class_is raised.NullPointer = refl
class_is raised.UnsupportedOperation = refl

new_fits : (rules : Rules) (store : Store) (object : Object) → Fits rules store.objects → ObjectFits rules (kinds store.objects) object → EffectFits rules (gives_new store object)
new_fits rules store object f h =
    after_fits rules store (store.objects ++ object ∷ []) 0 (λ paid. e.Gives (v.Ref (length store.objects)) paid) (λ room. (added_fits rules store.objects object f h, omega (arith, length-append store.objects (object ∷ []))))

made_fits : (rules : Rules) (store : Store) (before : List Object) (object : Object) → Fits rules (store.objects ++ before) → ObjectFits rules (kinds (store.objects ++ before)) object → EffectFits rules (gives_made store before object)
made_fits rules store before object f h =
    after_fits rules store (store.objects ++ before ++ object ∷ []) 0 (λ paid. e.Gives (v.Ref (length store.objects + length before)) paid)
    (λ room. (added_fits rules (store.objects ++ before) object f h, omega (arith, length-append store.objects before, length-append (store.objects ++ before) (object ∷ []))))

length_changed : (objects : List Object) (id : ℕ) (change : Object → Object) (found : Option Object) → length (changed_at objects id change found) ≡ length objects
length_changed objects id change None = refl
length_changed objects id change (Some object) = length-set objects id (change object)

pub still_fits : (objects : List Object) (id : ℕ) (change : Object → Object) (value : Value) → ValueFits (length objects) value → ValueFits (length (with_change objects id change)) value
still_fits objects id change value h =
    whether objects id change (λ (after : List Object). ValueFits (length after) value) h (subst (λ (n : ℕ). ValueFits n value) (sym (length_changed objects id change (slice_get objects id))) h)

-- what stands at a place, or null, is there
pub place_fits : (n : ℕ) (values : List Value) (at : ℕ) → AllFit n values → ValueFits n (value_or (slice_get values at) v.Null)
place_fits n [] at f = tt
place_fits n (x ∷ values) zero f = f.0
place_fits n (x ∷ values) (suc at) f = place_fits n values at f.1

own_list : (rules : Rules) (ks : List Kind) (object : Object) → ObjectFits rules ks object → AllFit (length ks) (list_items object)
own_list rules ks (o.List class items guard changes) f = f.1
own_list rules ks object f = tt

list_there : (rules : Rules) (ks : List Kind) (objects : List Object) → ObjectsFit rules ks objects → (id : ℕ) → AllFit (length ks) (list_items_of objects id)
list_there rules ks [] f id = tt
list_there rules ks (x ∷ objects) f zero = own_list rules ks x f.0
list_there rules ks (x ∷ objects) f (suc id) = list_there rules ks objects f.1 id

list_items_fit : (rules : Rules) (objects : List Object) (id : ℕ) → Fits rules objects → AllFit (length objects) (list_items_of objects id)
list_items_fit rules objects id f = subst (λ (n : ℕ). AllFit n (list_items_of objects id)) (length-kinds objects) (list_there rules (kinds objects) objects f.each id)

or_fits : (n : ℕ) (found : Option Value) → ((value : Value) → found ≡ Some value → ValueFits n value) → ValueFits n (value_or found v.Null)
or_fits n None h = tt
or_fits n (Some value) h = h value refl

pub now_fits : (rules : Rules) (objects : List Object) (id : ℕ) (key : Value) → Fits rules objects → ValueFits (length objects) (value_now objects id key)
now_fits rules objects id key f = or_fits (length objects) (value_of (pairs_of objects id) key) (λ value is. values_fit rules objects id key value f is)

-- what may be taken out fits, as all that is there
open_fit : (objects : List Object) (id : ℕ) (values : List Value) → AllFit (length objects) values → AllFit (length objects) (if frozen_of objects id then [] else values)
open_fit objects id values f = cond_both (frozen_of objects id) [] values (AllFit (length objects)) (λ _. tt) (λ _. f)

out_fits : (rules : Rules) (objects : List Object) (id : ℕ) (key : Value) → Fits rules objects → ValueFits (length objects) (value_or (key_out objects id key) v.Null)
out_fits rules objects id key f =
    cond_both (frozen_of objects id) [] (pairs_of objects id) (λ (pairs : List (Value × Value)). ValueFits (length objects) (value_or (value_of pairs key) v.Null)) (λ _. tt) (λ _. now_fits rules objects id key f)

renewed_fits : (rules : Rules) (store : Store) (id : ℕ) (object : Object) (value : Value) → Fits rules store.objects → ObjectFits rules (kinds store.objects) object → ValueFits (length store.objects) value
    → EffectFits rules (gives_renewed store id object value)
renewed_fits rules store id object value f h k =
    cond_both (is_collection object) (e.gives_paid store (with_change store.objects id (renewed_by object)) value) (e.Gives value store) (EffectFits rules)
    (λ _. after_fits rules store (with_change store.objects id (renewed_by object)) 0 (λ paid. e.Gives value paid)
    (λ room. (renew_fits rules store.objects id object f h, still_fits store.objects id (renewed_by object) value k)))
    (λ _. (f, k))

pub settled : (rules : Rules) (store : Store) (told : Outcome) → Fits rules store.objects → OutcomeFits rules store.objects told → EffectFits rules (effect store told)
settled rules store (outcome.Gives value) f h = (f, h)
settled rules store (outcome.Writes text) f h = after_fits rules store store.objects (length text + 1) (λ paid. e.Gives (v.Str text) paid) (λ room. (f, tt))
settled rules store (outcome.New object) f h = new_fits rules store object f h
settled rules store (outcome.Makes before object) f h = made_fits rules store before object h.0 h.1
settled rules store (outcome.Inserts id at item value) f h =
    after_fits rules store (with_change store.objects id (with_inserted at item)) 0 (λ paid. e.Gives value paid)
    (λ room. (grow_fits rules store.objects id at item f h.0, still_fits store.objects id (with_inserted at item) value h.1))
settled rules store (outcome.Extends id at items value) f h =
    after_fits rules store (with_change store.objects id (with_all_inserted at items)) 0 (λ paid. e.Gives value paid)
    (λ room. (extend_fits rules store.objects id at items f h.0, still_fits store.objects id (with_all_inserted at items) value h.1))
settled rules store (outcome.Sets id at item) f h =
    (put_fits rules store.objects id at item f h.0 h.1, still_fits store.objects id (with_item at item) (item_out store.objects id at) (place_fits (length store.objects) (open_items_of store.objects id) at (open_fit store.objects id (items_of store.objects id) (items_fit rules store.objects id f))))
settled rules store (outcome.SetsTwo id at item other_at other) f h =
    (put_fits rules (with_change store.objects id (with_item at item)) id other_at other (put_fits rules store.objects id at item f h.0.0 h.0.1) (still_fits store.objects id (with_item at item) other h.1.0) h.1.1, tt)
settled rules store (outcome.Cuts id at) f h =
    (cut_fits rules store.objects id at f, still_fits store.objects id (with_removed at) (list_item_out store.objects id at) (place_fits (length store.objects) (open_list_items_of store.objects id) at (open_fit store.objects id (list_items_of store.objects id) (list_items_fit rules store.objects id f))))
settled rules store (outcome.Drops id at) f h = (cut_fits rules store.objects id at f, tt)
settled rules store (outcome.Puts id key value) f h =
    after_fits rules store (with_change store.objects id (with_put key value)) 0 (λ paid. e.Gives (value_now store.objects id key) paid)
    (λ room. (map_put_fits rules store.objects id key value f h.0 h.1, still_fits store.objects id (with_put key value) (value_now store.objects id key) (now_fits rules store.objects id key f)))
settled rules store (outcome.Adds id key) f h =
    after_fits rules store (with_change store.objects id (with_put key v.Null)) 0 (λ paid. e.Gives (v.Bool (not (has_key store.objects id key))) paid) (λ room. (map_put_fits rules store.objects id key v.Null f h tt, tt))
settled rules store (outcome.PutsAll id pairs) f h =
    after_fits rules store (with_change store.objects id (with_all_put pairs)) 0 (λ paid. e.Gives v.Null paid) (λ room. (map_extend_fits rules store.objects id pairs f h, tt))
settled rules store (outcome.AddsAll id keys) f h =
    after_fits rules store (with_change store.objects id (with_all_put keys)) 0 (λ paid. e.Gives (v.Bool (nat_lt (size_of store.objects id) (size_of paid.objects id))) paid) (λ room. (map_extend_fits rules store.objects id keys f h, tt))
settled rules store (outcome.CutsKey id key) f h =
    (map_cut_fits rules store.objects id key f, still_fits store.objects id (with_key_cut key) (value_or (key_out store.objects id key) v.Null) (out_fits rules store.objects id key f))
settled rules store (outcome.DropsKey id key) f h = (map_cut_fits rules store.objects id key f, tt)
settled rules store (outcome.DropsEntry id key) f h = (map_cut_fits rules store.objects id key f, tt)
settled rules store (outcome.CutsPair id at) f h = (map_cut_at_fits rules store.objects id at f, tt)
settled rules store (outcome.Empties id object) f h = renewed_fits rules store id object v.Null f h tt
settled rules store (outcome.Becomes id object value) f h = renewed_fits rules store id object value f h.0 h.1
settled rules store (outcome.Throws raised message) f h = throws_fits rules store (number_of raised) message f (class_is raised)
settled rules store outcome.NoMemory f h = (f, tt)
