-- What elements, lengths and literals come to fits the store.
use Rattle.std.proofs.Common.{◌≡◌, ℕ, ℤ, Bool, true, false, Option, Some, None, List, [], ◌∷◌, length, refl, sym, subst, slice_get, if◌then◌else◌}
use Rattle.std.specs.Prelude.{◌&&◌}
use Rattle.std.proofs.lemmas.Bool.{cond_both}
use Rattle.pl_types.specs.declared.classes.TheConstants.{HASH_MAP}
use Rattle.pl_types.specs.Classes.{class_is_below, lineage_of, parents_of, class_row, class_table}
use Rattle.pl_types.specs.declared.ty.Ty.{Ty, out-Ty}
use Rattle.object_values.specs.declared.object.Guard.TheVariants as g
use Rattle.object_values.specs.declared.object.Object.{Object}
use Rattle.object_values.specs.declared.object.Object.TheVariants as o
use Rattle.object_values.specs.declared.value.Value.{Value}
use Rattle.object_values.specs.declared.value.Value.TheVariants as v
use Rattle.object_values.specs.Pairs.{with_pairs}
use Rattle.object_values.specs.Values.{is_simple}
use Rattle.object_heap.specs.Fits.{Rules, Fits, Typed, ValueFits, AllFit, AreElements, PairsFit, is_element, is_type, has_type, kinds, layer_asked}
use Rattle.object_heap.specs.Objects.{Kind}
use Rattle.object_heap.proofs.Fitting.{length-kinds}
use Rattle.object_heap.proofs.PairLemmas.{distinct_with_all, pairs_with_all}
use Rattle.container_outcomes.specs.Equality.{value_or}
use Rattle.container_outcomes.specs.declared.outcome.Outcome.{Outcome}
use Rattle.container_outcomes.specs.declared.outcome.Outcome.TheVariants as outcome
use Rattle.container_outcomes.specs.declared.outcome.Raised.TheVariants as raised
use Rattle.container_outcomes.specs.Laws.{OutcomeFits}
use Rattle.container_outcomes.specs.Outcomes.{array_index_error, not_simple}
use Rattle.container_outcomes.proofs.Fitting.{all_counted, if_fits, object_there, says_fits}
use Rattle.container_outcomes.proofs.Settling.{place_fits}
use Rattle.container_calls.specs.Indexing as indexing
use Rattle.container_calls.specs.Lists.{place_of}
use Rattle.container_ops.specs.Elements as elements
use Rattle.container_ops.specs.Making as making
use Rattle.container_ops.specs.Types.{are_of_type, goes_with, is_read_as, other_kind}

-- ---- places

placed_fits : (rules : Rules) (objects : List Object) (count : ℕ) (at : ℤ) (place : Option ℕ) (next : ℕ → Outcome) → ((place : ℕ) → OutcomeFits rules objects (next place))
    → OutcomeFits rules objects (indexing.at_place array_index_error count at place next)
placed_fits rules objects count at None next k = says_fits rules objects raised.ArrayIndexOutOfBounds _
placed_fits rules objects count at (Some place) next k = k place

in_array_fits : (rules : Rules) (objects : List Object) (items : List Value) (at : ℤ) (next : ℕ → Outcome) → ((place : ℕ) → OutcomeFits rules objects (next place))
    → OutcomeFits rules objects (elements.in_array items at next)
in_array_fits rules objects items at next k =
    placed_fits rules objects (length items) (indexing.counted (length items) at) (place_of (length items) (indexing.counted (length items) at)) next k

-- the elements of an array that is there
array_there : (rules : Rules) (objects : List Object) (id : ℕ) (elem : Ty) (items : List Value) → Fits rules objects → slice_get objects id ≡ Some (o.Array elem items) → AllFit (length objects) items
array_there rules objects id elem items f e =
    subst (λ (n : ℕ). AllFit n items) (length-kinds objects) (object_there rules (kinds objects) objects id (o.Array elem items) f.each e).1

-- ---- reading

given_fits : (rules : Rules) (objects : List Object) (of : Ty) (value : Value) → ValueFits (length objects) value → OutcomeFits rules objects (elements.given_as_read of value)
given_fits rules objects of value h = if_fits rules objects (is_read_as of value) _ other_kind h tt

read_in_fits : (rules : Rules) (objects : List Object) (of : Ty) (id : ℕ) (at : ℤ) (found : Option Object) → Fits rules objects → slice_get objects id ≡ found → OutcomeFits rules objects (elements.read_in of at found)
read_in_fits rules objects of id at (Some (o.Array elem items)) f e =
    if_fits rules objects (goes_with of elem) (elements.in_array items at (elements.item_read of items)) other_kind
    (in_array_fits rules objects items at (elements.item_read of items)
    (λ place. given_fits rules objects of (value_or (slice_get items place) v.Null) (place_fits (length objects) items place (array_there rules objects id elem items f e))))
    tt
read_in_fits rules objects of id at None f e = tt
read_in_fits rules objects of id at (Some object) f e = tt

pub read_at_fits : (rules : Rules) (objects : List Object) (of : Ty) (array : Value) (at : ℤ) → Fits rules objects → OutcomeFits rules objects (elements.read_at objects of array at)
read_at_fits rules objects of (v.Ref id) at f = read_in_fits rules objects of id at (slice_get objects id) f refl
read_at_fits rules objects of value at f = tt

given_in_fits : (rules : Rules) (objects : List Object) (id : ℕ) (at : ℤ) (found : Option Object) → Fits rules objects → slice_get objects id ≡ found → OutcomeFits rules objects (elements.given_in at found)
given_in_fits rules objects id at (Some (o.Array elem items)) f e =
    in_array_fits rules objects items at (elements.item_given items) (λ place. place_fits (length objects) items place (array_there rules objects id elem items f e))
given_in_fits rules objects id at None f e = tt
given_in_fits rules objects id at (Some object) f e = tt

pub given_at_fits : (rules : Rules) (objects : List Object) (array : Value) (at : ℤ) → Fits rules objects → OutcomeFits rules objects (elements.given_at objects array at)
given_at_fits rules objects (v.Ref id) at f = given_in_fits rules objects id at (slice_get objects id) f refl
given_at_fits rules objects value at f = tt

-- ---- writing

pub typed_is_element : (typed : Typed) (ks : List Kind) (elem : Ty) (value : Value) → has_type ks elem value ≡ true → is_element typed ks elem value ≡ true
typed_is_element typed ks elem value h =
    elim (layer_asked typed (out-Ty elem)) as (λ b. (if b then has_type ks elem value else true) ≡ true) [ true ↦ h | false ↦ refl ]

written_in_fits : (rules : Rules) (objects : List Object) (of : Ty) (id : ℕ) (at : ℤ) (item : Value) (found : Option Object) → ValueFits (length objects) item → slice_get objects id ≡ found
    → OutcomeFits rules objects (elements.written_in objects of id at item found)
written_in_fits rules objects of id at item (Some (o.Array elem items)) h e =
    if_fits rules objects (goes_with of elem) (elements.written_if_typed objects id elem items at item) other_kind
    (cond_both (has_type (kinds objects) elem item) (elements.in_array items at (elements.item_written id item)) other_kind (OutcomeFits rules objects)
    (λ is. in_array_fits rules objects items at (elements.item_written id item) (λ place. (h, rw e (typed_is_element rules.typed (kinds objects) elem item is))))
    (λ _. tt))
    tt
written_in_fits rules objects of id at item None h e = tt
written_in_fits rules objects of id at item (Some object) h e = tt

pub written_at_fits : (rules : Rules) (objects : List Object) (of : Ty) (array : Value) (at : ℤ) (item : Value) → ValueFits (length objects) item → OutcomeFits rules objects (elements.written_at objects of array at item)
written_at_fits rules objects of (v.Ref id) at item h = written_in_fits rules objects of id at item (slice_get objects id) h refl
written_at_fits rules objects of value at item h = tt

-- ---- lengths

length_in_fits : (rules : Rules) (objects : List Object) (found : Option Object) → OutcomeFits rules objects (elements.length_in found)
length_in_fits rules objects (Some (o.Array elem items)) = tt
length_in_fits rules objects None = tt
length_in_fits rules objects (Some object) = tt

pub length_fits : (rules : Rules) (objects : List Object) (value : Value) → OutcomeFits rules objects (elements.length_told objects value)
length_fits rules objects (v.Ref id) = length_in_fits rules objects (slice_get objects id)
length_fits rules objects value = tt

-- ---- literals

pub list_fits : (rules : Rules) (objects : List Object) (items : List Value) → AllFit (length objects) items → OutcomeFits rules objects (making.list_told items)
unfolding class_is_below lineage_of parents_of class_row class_table
list_fits rules objects items h = (refl, all_counted objects items h)

keyed_and : (n : ℕ) (key value : Value) (pairs : List (Value × Value)) (test : Bool) → is_simple key ≡ test → ValueFits n value → (making.have_simple_keys pairs ≡ true → PairsFit n pairs)
    → (test && making.have_simple_keys pairs) ≡ true → PairsFit n ((key, value) ∷ pairs)
keyed_and n key value pairs true e f k h = (e, f, k h)
keyed_and n key value pairs false e f k h = cc

pairs_fit : (n : ℕ) (parts : List Value) → AllFit n parts → making.have_simple_keys (making.pairs_in parts) ≡ true → PairsFit n (making.pairs_in parts)
pairs_fit n [] f h = tt
pairs_fit n (key ∷ []) f h = tt
pairs_fit n (key ∷ value ∷ more) f h = keyed_and n key value (making.pairs_in more) (is_simple key) refl f.1.0 (λ k. pairs_fit n more f.1.1 k) h

new_map_fits : (rules : Rules) (objects : List Object) (pairs : List (Value × Value)) → PairsFit (length objects) pairs
    → OutcomeFits rules objects (outcome.New (o.Map HASH_MAP (with_pairs [] pairs) g.Open 0))
unfolding class_is_below lineage_of parents_of class_row class_table
new_map_fits rules objects pairs h =
    (refl, subst (λ (n : ℕ). PairsFit n (with_pairs [] pairs)) (sym (length-kinds objects)) (pairs_with_all (length objects) pairs [] h tt), distinct_with_all pairs [] tt)

pub map_fits : (rules : Rules) (objects : List Object) (parts : List Value) → AllFit (length objects) parts → OutcomeFits rules objects (making.map_told (making.pairs_in parts))
map_fits rules objects parts f =
    cond_both (making.have_simple_keys (making.pairs_in parts)) (outcome.New (o.Map HASH_MAP (with_pairs [] (making.pairs_in parts)) g.Open 0)) not_simple (OutcomeFits rules objects)
    (λ is. new_map_fits rules objects (making.pairs_in parts) (pairs_fit (length objects) parts f is))
    (λ _. says_fits rules objects raised.IllegalArgument _)

-- ---- arrays of elements that are given

typed_and : (typed : Typed) (ks : List Kind) (elem : Ty) (item : Value) (items : List Value) (test : Bool) → has_type ks elem item ≡ test → (are_of_type ks elem items ≡ true → AreElements typed ks elem items)
    → (test && are_of_type ks elem items) ≡ true → AreElements typed ks elem (item ∷ items)
typed_and typed ks elem item items true e k h = (typed_is_element typed ks elem item e, k h)
typed_and typed ks elem item items false e k h = cc

elements_are : (typed : Typed) (ks : List Kind) (elem : Ty) (items : List Value) → are_of_type ks elem items ≡ true → AreElements typed ks elem items
elements_are typed ks elem [] h = tt
elements_are typed ks elem (item ∷ items) h = typed_and typed ks elem item items (has_type ks elem item) refl (λ k. elements_are typed ks elem items k) h

filled_if : (rules : Rules) (objects : List Object) (elem : Ty) (items : List Value) (is : Bool) → is_type elem ≡ is → AllFit (length objects) items
    → OutcomeFits rules objects (if is && are_of_type (kinds objects) elem items then outcome.New (o.Array elem items) else other_kind)
filled_if rules objects elem items true e f =
    cond_both (are_of_type (kinds objects) elem items) (outcome.New (o.Array elem items)) other_kind (OutcomeFits rules objects)
    (λ is. (e, all_counted objects items f, elements_are rules.typed (kinds objects) elem items is))
    (λ _. tt)
filled_if rules objects elem items false e f = tt

pub filled_fits : (rules : Rules) (objects : List Object) (elem : Ty) (items : List Value) → AllFit (length objects) items → OutcomeFits rules objects (making.filled_told objects elem items)
filled_fits rules objects elem items f = filled_if rules objects elem items (is_type elem) refl f
