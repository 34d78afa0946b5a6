-- Stores that fit go on fitting.
use Rattle.std.proofs.Common.{◌≡◌, ℕ, zero, suc, ◌≤◌, Bool, true, false, nat_le, nat_lt, Option, Some, List, [], ◌∷◌, ◌++◌, length, map, take, drop, insert, remove, refl, ap, sym, subst, arith, slice_get, slice_set, if◌then◌else◌}
use Rattle.std.proofs.lemmas.Bool.{cond_both}
use Rattle.pl_types.specs.declared.ty.Ty.{Ty}
use Rattle.object_values.specs.declared.value.Value.{Value}
use Rattle.object_values.specs.declared.value.Value.TheVariants as v
use Rattle.object_values.specs.declared.object.Object.{Object}
use Rattle.object_values.specs.declared.object.Object.TheVariants as o
use Rattle.object_values.specs.declared.object.Owner.TheVariants.{Script, Prelude}
use Rattle.object_values.specs.declared.object.Target.{Target}
use Rattle.object_values.specs.declared.object.Target.TheVariants as t
use Rattle.object_values.specs.Values.{is_simple}
use Rattle.object_values.specs.Pairs.{value_of}
use Rattle.object_heap.specs.Fits.{kinds, is_map, can_iterate, Typed, Rules, is_element, target_fits, ValueFits, AllFit, PairsFit, KeysFit, AreElements, ObjectFits, ObjectsFit, Fits, ItemFits, PutsFit}
use Rattle.object_heap.specs.Objects.{Kind, AList, kind_of, may_become, changed, changed_by, with_item, with_inserted, with_all_inserted, with_removed, with_put, with_all_put, with_key_cut, with_pair_cut, with_units, with_spliced, renewed_by, retired_target, retired}
use Rattle.object_heap.specs.Parts.{object_items, object_pairs, object_captures, frozen_of, items_of, pairs_of, captures_of}
use Rattle.object_heap.specs.Store.{changed_one, with_change}
use Rattle.object_heap.proofs.Growth.{cons_changed}
use Rattle.object_heap.proofs.KindLemmas.{becomes_refl, Follows, follows_refl, follows_more, follows_length, still_passes, is_map_kept, can_iterate_kept, is_element_more, target_more}
use Rattle.object_heap.proofs.PairLemmas.{distinct_with, distinct_with_all, distinct_without, pairs_with, pairs_with_all, pairs_without, keys_with, keys_with_all, keys_without, distinct_removed, pairs_removed, keys_removed, value_there}

value_more : (n m : ℕ) → n ≤ m → (value : Value) → ValueFits n value → ValueFits m value
value_more n m h (v.Ref id) f = omega arith
value_more n m h value f = tt

all_more : (n m : ℕ) → n ≤ m → (values : List Value) → AllFit n values → AllFit m values
all_more n m h [] f = tt
all_more n m h (value ∷ values) f = (value_more n m h value f.0, all_more n m h values f.1)

pairs_more : (n m : ℕ) → n ≤ m → (pairs : List (Value × Value)) → PairsFit n pairs → PairsFit m pairs
pairs_more n m h [] f = tt
pairs_more n m h (pair ∷ pairs) f = (f.0, value_more n m h pair.1 f.1, pairs_more n m h pairs f.2)

elements_more : (ks more : List Kind) → Follows ks more → (typed : Typed) (elem : Ty) (items : List Value) → AreElements typed ks elem items → AreElements typed more elem items
elements_more ks more h typed elem [] f = tt
elements_more ks more h typed elem (item ∷ items) f = (is_element_more ks more h typed elem item f.0, elements_more ks more h typed elem items f.1)

-- what fits goes on fitting as objects are added and replaced
pub object_more : (rules : Rules) (ks more : List Kind) → Follows ks more → (object : Object) → ObjectFits rules ks object → ObjectFits rules more object
object_more rules ks more h (o.List class items guard changes) f = (f.0, all_more _ _ (follows_length ks more h) items f.1)
object_more rules ks more h (o.Map class pairs guard changes) f = (f.0, pairs_more _ _ (follows_length ks more h) pairs f.1, f.2)
object_more rules ks more h (o.Set class items guard changes) f = f
object_more rules ks more h (o.Array elem items) f = (f.0, all_more _ _ (follows_length ks more h) items f.1, elements_more ks more h rules.typed elem items f.2)
object_more rules ks more h (o.View map part) f = still_passes is_map is_map_kept ks more h map f
object_more rules ks more h (o.Entry map key) f = (still_passes is_map is_map_kept ks more h map f.0, f.1)
object_more rules ks more h (o.Iter over cursor seen last) f = still_passes can_iterate can_iterate_kept ks more h over f
object_more rules ks more h (o.Builder units) f = tt
object_more rules ks more h (o.Fun iface target captures) f = (f.0, target_more rules ks more h iface captures target f.1, all_more _ _ (follows_length ks more h) captures f.2)
object_more rules ks more h (o.Exc class message) f = f

objects_more : (rules : Rules) (ks more : List Kind) → Follows ks more → (objects : List Object) → ObjectsFit rules ks objects → ObjectsFit rules more objects
objects_more rules ks more h [] f = tt
objects_more rules ks more h (object ∷ objects) f = (object_more rules ks more h object f.0, objects_more rules ks more h objects f.1)

-- an object that is added
kinds-append : (objects : List Object) (object : Object) → kinds (objects ++ object ∷ []) ≡ kinds objects ++ kind_of object ∷ []
kinds-append [] object = refl
kinds-append (x ∷ objects) object = ap (λ ks. kind_of x ∷ ks) (kinds-append objects object)

pub length-kinds : (objects : List Object) → length (kinds objects) ≡ length objects
length-kinds [] = refl
length-kinds (x ∷ objects) = ap suc (length-kinds objects)

each_append : (rules : Rules) (ks : List Kind) (objects : List Object) (object : Object) → ObjectsFit rules ks objects → ObjectFits rules ks object → ObjectsFit rules ks (objects ++ object ∷ [])
each_append rules ks [] object f h = (h, tt)
each_append rules ks (x ∷ objects) object f h = (f.0, each_append rules ks objects object f.1 h)

pub added_fits : (rules : Rules) (objects : List Object) (object : Object) → Fits rules objects → ObjectFits rules (kinds objects) object → Fits rules (objects ++ object ∷ [])
added_fits rules objects object f h = record {
  each =
      rw (kinds-append objects object) (objects_more rules (kinds objects) (kinds objects ++ kind_of object ∷ []) (follows_more (kinds objects) (kind_of object ∷ [])) (objects ++ object ∷ [])
      (each_append rules (kinds objects) objects object f.each h));
}

-- A change of one object: it stays what it is, and fits where the object that is there does
pub record Keeps (rules : Rules) (objects : List Object) (id : ℕ) (change : Object → Object) : Type 0 where
  pub kind : (object : Object) → may_become (kind_of object) (kind_of (change object)) ≡ true
  pub fit : (object : Object) → slice_get objects id ≡ Some object → ObjectFits rules (kinds objects) object → ObjectFits rules (kinds objects) (change object)

follows_changed : (objects : List Object) (id : ℕ) (change : Object → Object) → ((object : Object) → may_become (kind_of object) (kind_of (change object)) ≡ true)
    → Follows (kinds objects) (kinds (changed_one objects id change))
follows_changed [] id change h = tt
follows_changed (x ∷ objects) zero change h = (h x, follows_refl (kinds objects))
follows_changed (x ∷ objects) (suc id) change h =
    rw (cons_changed x objects id change (slice_get objects id)) (becomes_refl (kind_of x), follows_changed objects id change h)

each_changed : (rules : Rules) (ks : List Kind) (objects : List Object) (id : ℕ) (change : Object → Object)
    → ((object : Object) → slice_get objects id ≡ Some object → ObjectFits rules ks object → ObjectFits rules ks (change object))
    → ObjectsFit rules ks objects → ObjectsFit rules ks (changed_one objects id change)
each_changed rules ks [] id change h f = tt
each_changed rules ks (x ∷ objects) zero change h f = (h x refl f.0, f.1)
each_changed rules ks (x ∷ objects) (suc id) change h f =
    rw (cons_changed x objects id change (slice_get objects id)) (f.0, each_changed rules ks objects id change h f.1)

one_fits : (rules : Rules) (objects : List Object) (id : ℕ) (change : Object → Object) → Keeps rules objects id change → Fits rules objects → Fits rules (changed_one objects id change)
one_fits rules objects id change keeps f = record {
  each =
      objects_more rules (kinds objects) (kinds (changed_one objects id change)) (follows_changed objects id change keeps.kind) (changed_one objects id change)
      (each_changed rules (kinds objects) objects id change keeps.fit f.each);
}

pub changed_fits : (rules : Rules) (objects : List Object) (id : ℕ) (change : Object → Object) → Keeps rules objects id change → Fits rules objects → Fits rules (with_change objects id change)
changed_fits rules objects id change keeps f = cond_both (frozen_of objects id) objects (changed_one objects id change) (Fits rules) (λ _. f) (λ _. one_fits rules objects id change keeps f)

-- lists of values
all_append : (n : ℕ) (values more : List Value) → AllFit n values → AllFit n more → AllFit n (values ++ more)
all_append n [] more f g = g
all_append n (value ∷ values) more f g = (f.0, all_append n values more f.1 g)

all_take : (n k : ℕ) (values : List Value) → AllFit n values → AllFit n (take k values)
all_take n zero values f = tt
all_take n (suc k) [] f = tt
all_take n (suc k) (value ∷ values) f = (f.0, all_take n k values f.1)

all_drop : (n k : ℕ) (values : List Value) → AllFit n values → AllFit n (drop k values)
all_drop n zero values f = f
all_drop n (suc k) [] f = tt
all_drop n (suc k) (value ∷ values) f = all_drop n k values f.1

all_set : (n at : ℕ) (value : Value) (values : List Value) → ValueFits n value → AllFit n values → AllFit n (slice_set values at value)
all_set n at value [] h f = tt
all_set n zero value (x ∷ values) h f = (h, f.1)
all_set n (suc at) value (x ∷ values) h f = (f.0, all_set n at value values h f.1)

elements_set : (typed : Typed) (ks : List Kind) (elem : Ty) (at : ℕ) (value : Value) (values : List Value) → is_element typed ks elem value ≡ true
    → AreElements typed ks elem values → AreElements typed ks elem (slice_set values at value)
elements_set typed ks elem at value [] h f = tt
elements_set typed ks elem zero value (x ∷ values) h f = (h, f.1)
elements_set typed ks elem (suc at) value (x ∷ values) h f = (f.0, elements_set typed ks elem at value values h f.1)

-- an item that is written
pub item_kind : (at : ℕ) (value : Value) (object : Object) → may_become (kind_of object) (kind_of (with_item at value object)) ≡ true
item_kind at value (o.List class items guard changes) = becomes_refl (kind_of (o.List class items guard changes))
item_kind at value (o.Array elem items) = becomes_refl (kind_of (o.Array elem items))
item_kind at value object = becomes_refl (kind_of object)

item_fit : (rules : Rules) (ks : List Kind) (at : ℕ) (value : Value) → ValueFits (length ks) value → (object : Object) → ItemFits rules.typed ks value (Some object)
    → ObjectFits rules ks object → ObjectFits rules ks (with_item at value object)
item_fit rules ks at value h (o.List class items guard changes) i f = (f.0, all_set _ at value items h f.1)
item_fit rules ks at value h (o.Array elem items) i f = (f.0, all_set _ at value items h f.1, elements_set rules.typed ks elem at value items i f.2)
item_fit rules ks at value h object i f = f

counted : (objects : List Object) (value : Value) → ValueFits (length objects) value → ValueFits (length (kinds objects)) value
counted objects value h = subst (λ (n : ℕ). ValueFits n value) (sym (length-kinds objects)) h

pub put_fits : (rules : Rules) (objects : List Object) (id at : ℕ) (value : Value) → Fits rules objects → ValueFits (length objects) value
    → ItemFits rules.typed (kinds objects) value (slice_get objects id) → Fits rules (with_change objects id (with_item at value))
put_fits rules objects id at value f h i = changed_fits rules objects id (with_item at value) (record {
  kind = item_kind at value;
  fit = λ object is g. item_fit rules (kinds objects) at value (counted objects value h) object (subst (ItemFits rules.typed (kinds objects) value) is i) g;
}) f

-- an item that is inserted
pub inserted_kind : (at : ℕ) (value : Value) (object : Object) → may_become (kind_of object) (kind_of (with_inserted at value object)) ≡ true
inserted_kind at value (o.List class items guard changes) =
    elim (nat_le at (length items)) as (λ b. may_become (AList class) (kind_of (if b then o.List class (insert items at value) guard (changed changes) else o.List class items guard changes)) ≡ true)
    [ true ↦ becomes_refl (AList class) | false ↦ becomes_refl (AList class) ]
inserted_kind at value object = becomes_refl (kind_of object)

inserted_fit : (rules : Rules) (ks : List Kind) (at : ℕ) (value : Value) → ValueFits (length ks) value → (object : Object) → ObjectFits rules ks object → ObjectFits rules ks (with_inserted at value object)
inserted_fit rules ks at value h (o.List class items guard changes) f =
    elim (nat_le at (length items)) as (λ b. ObjectFits rules ks (if b then o.List class (insert items at value) guard (changed changes) else o.List class items guard changes))
    [ true ↦ (f.0, all_append _ (take at items) (value ∷ drop at items) (all_take _ at items f.1) (h, all_drop _ at items f.1)) | false ↦ f ]
inserted_fit rules ks at value h object f = f

pub grow_fits : (rules : Rules) (objects : List Object) (id at : ℕ) (value : Value) → Fits rules objects → ValueFits (length objects) value → Fits rules (with_change objects id (with_inserted at value))
grow_fits rules objects id at value f h = changed_fits rules objects id (with_inserted at value) (record {
  kind = inserted_kind at value;
  fit = λ object is g. inserted_fit rules (kinds objects) at value (counted objects value h) object g;
}) f

-- items that are inserted
all_counted : (objects : List Object) (values : List Value) → AllFit (length objects) values → AllFit (length (kinds objects)) values
all_counted objects values h = subst (λ (n : ℕ). AllFit n values) (sym (length-kinds objects)) h

pub all_inserted_kind : (at : ℕ) (more : List Value) (object : Object) → may_become (kind_of object) (kind_of (with_all_inserted at more object)) ≡ true
all_inserted_kind at more (o.List class items guard changes) =
    elim (nat_le at (length items)) as (λ b. may_become (AList class) (kind_of (if b then o.List class (take at items ++ more ++ drop at items) guard (changed_by changes (length more)) else o.List class items guard changes)) ≡ true)
    [ true ↦ becomes_refl (AList class) | false ↦ becomes_refl (AList class) ]
all_inserted_kind at more object = becomes_refl (kind_of object)

all_inserted_fit : (rules : Rules) (ks : List Kind) (at : ℕ) (more : List Value) → AllFit (length ks) more → (object : Object) → ObjectFits rules ks object → ObjectFits rules ks (with_all_inserted at more object)
all_inserted_fit rules ks at more h (o.List class items guard changes) f =
    elim (nat_le at (length items)) as (λ b. ObjectFits rules ks (if b then o.List class (take at items ++ more ++ drop at items) guard (changed_by changes (length more)) else o.List class items guard changes))
    [ true ↦ (f.0, all_append _ (take at items ++ more) (drop at items) (all_append _ (take at items) more (all_take _ at items f.1) h) (all_drop _ at items f.1)) | false ↦ f ]
all_inserted_fit rules ks at more h object f = f

pub extend_fits : (rules : Rules) (objects : List Object) (id at : ℕ) (more : List Value) → Fits rules objects → AllFit (length objects) more → Fits rules (with_change objects id (with_all_inserted at more))
extend_fits rules objects id at more f h = changed_fits rules objects id (with_all_inserted at more) (record {
  kind = all_inserted_kind at more;
  fit = λ object is g. all_inserted_fit rules (kinds objects) at more (all_counted objects more h) object g;
}) f

-- an item that is taken out
pub removed_kind : (at : ℕ) (object : Object) → may_become (kind_of object) (kind_of (with_removed at object)) ≡ true
removed_kind at (o.List class items guard changes) =
    elim (nat_lt at (length items)) as (λ b. may_become (AList class) (kind_of (if b then o.List class (remove items at) guard (changed changes) else o.List class items guard changes)) ≡ true)
    [ true ↦ becomes_refl (AList class) | false ↦ becomes_refl (AList class) ]
removed_kind at object = becomes_refl (kind_of object)

removed_fit : (rules : Rules) (ks : List Kind) (at : ℕ) (object : Object) → ObjectFits rules ks object → ObjectFits rules ks (with_removed at object)
removed_fit rules ks at (o.List class items guard changes) f =
    elim (nat_lt at (length items)) as (λ b. ObjectFits rules ks (if b then o.List class (remove items at) guard (changed changes) else o.List class items guard changes))
    [ true ↦ (f.0, all_append _ (take at items) (drop (suc at) items) (all_take _ at items f.1) (all_drop _ (suc at) items f.1)) | false ↦ f ]
removed_fit rules ks at object f = f

pub cut_fits : (rules : Rules) (objects : List Object) (id at : ℕ) → Fits rules objects → Fits rules (with_change objects id (with_removed at))
cut_fits rules objects id at f = changed_fits rules objects id (with_removed at) (record {
  kind = removed_kind at;
  fit = λ object is g. removed_fit rules (kinds objects) at object g;
}) f

-- a key that is put
pub key_put_kind : (key value : Value) (object : Object) → may_become (kind_of object) (kind_of (with_put key value object)) ≡ true
key_put_kind key value (o.Map class pairs guard changes) = becomes_refl (kind_of (o.Map class pairs guard changes))
key_put_kind key value (o.Set class items guard changes) = becomes_refl (kind_of (o.Set class items guard changes))
key_put_kind key value object = becomes_refl (kind_of object)

key_put_fit : (rules : Rules) (ks : List Kind) (key value : Value) → is_simple key ≡ true → ValueFits (length ks) value → (object : Object)
    → ObjectFits rules ks object → ObjectFits rules ks (with_put key value object)
key_put_fit rules ks key value k h (o.Map class pairs guard changes) f = (f.0, pairs_with _ pairs key value k h f.1, distinct_with pairs key value f.2)
key_put_fit rules ks key value k h (o.Set class items guard changes) f = (f.0, keys_with items key k f.1, distinct_with items key v.Null f.2)
key_put_fit rules ks key value k h object f = f

pub map_put_fits : (rules : Rules) (objects : List Object) (id : ℕ) (key value : Value) → Fits rules objects → is_simple key ≡ true → ValueFits (length objects) value
    → Fits rules (with_change objects id (with_put key value))
map_put_fits rules objects id key value f k h = changed_fits rules objects id (with_put key value) (record {
  kind = key_put_kind key value;
  fit = λ object is g. key_put_fit rules (kinds objects) key value k (counted objects value h) object g;
}) f

-- pairs that are put
pub all_put_kind : (more : List (Value × Value)) (object : Object) → may_become (kind_of object) (kind_of (with_all_put more object)) ≡ true
all_put_kind more (o.Map class pairs guard changes) = becomes_refl (kind_of (o.Map class pairs guard changes))
all_put_kind more (o.Set class items guard changes) = becomes_refl (kind_of (o.Set class items guard changes))
all_put_kind more object = becomes_refl (kind_of object)

all_put_fit : (rules : Rules) (ks : List Kind) (more : List (Value × Value)) (object : Object) → PutsFit (length ks) more (Some object)
    → ObjectFits rules ks object → ObjectFits rules ks (with_all_put more object)
all_put_fit rules ks more (o.Map class pairs guard changes) h f = (f.0, pairs_with_all _ more pairs h f.1, distinct_with_all more pairs f.2)
all_put_fit rules ks more (o.Set class items guard changes) h f = (f.0, keys_with_all more items h f.1, distinct_with_all more items f.2)
all_put_fit rules ks more object h f = f

pub map_extend_fits : (rules : Rules) (objects : List Object) (id : ℕ) (more : List (Value × Value)) → Fits rules objects → PutsFit (length objects) more (slice_get objects id)
    → Fits rules (with_change objects id (with_all_put more))
map_extend_fits rules objects id more f h = changed_fits rules objects id (with_all_put more) (record {
  kind = all_put_kind more;
  fit = λ object is g.
      all_put_fit rules (kinds objects) more object (subst (λ (n : ℕ). PutsFit n more (Some object)) (sym (length-kinds objects)) (subst (PutsFit (length objects) more) is h)) g;
}) f

-- a key that is taken out
pub key_cut_kind : (key : Value) (object : Object) → may_become (kind_of object) (kind_of (with_key_cut key object)) ≡ true
key_cut_kind key (o.Map class pairs guard changes) = becomes_refl (kind_of (o.Map class pairs guard changes))
key_cut_kind key (o.Set class items guard changes) = becomes_refl (kind_of (o.Set class items guard changes))
key_cut_kind key object = becomes_refl (kind_of object)

key_cut_fit : (rules : Rules) (ks : List Kind) (key : Value) (object : Object) → ObjectFits rules ks object → ObjectFits rules ks (with_key_cut key object)
key_cut_fit rules ks key (o.Map class pairs guard changes) f = (f.0, pairs_without _ pairs key f.1, distinct_without pairs key f.2)
key_cut_fit rules ks key (o.Set class items guard changes) f = (f.0, keys_without items key f.1, distinct_without items key f.2)
key_cut_fit rules ks key object f = f

pub map_cut_fits : (rules : Rules) (objects : List Object) (id : ℕ) (key : Value) → Fits rules objects → Fits rules (with_change objects id (with_key_cut key))
map_cut_fits rules objects id key f = changed_fits rules objects id (with_key_cut key) (record {
  kind = key_cut_kind key;
  fit = λ object is g. key_cut_fit rules (kinds objects) key object g;
}) f

-- a pair that is taken out by its place
pub pair_cut_kind : (at : ℕ) (object : Object) → may_become (kind_of object) (kind_of (with_pair_cut at object)) ≡ true
pair_cut_kind at (o.Map class pairs guard changes) = becomes_refl (kind_of (o.Map class pairs guard changes))
pair_cut_kind at (o.Set class items guard changes) = becomes_refl (kind_of (o.Set class items guard changes))
pair_cut_kind at object = becomes_refl (kind_of object)

pair_cut_fit : (rules : Rules) (ks : List Kind) (at : ℕ) (object : Object) → ObjectFits rules ks object → ObjectFits rules ks (with_pair_cut at object)
pair_cut_fit rules ks at (o.Map class pairs guard changes) f = (f.0, pairs_removed _ pairs at f.1, distinct_removed pairs at f.2)
pair_cut_fit rules ks at (o.Set class items guard changes) f = (f.0, keys_removed items at f.1, distinct_removed items at f.2)
pair_cut_fit rules ks at object f = f

pub map_cut_at_fits : (rules : Rules) (objects : List Object) (id at : ℕ) → Fits rules objects → Fits rules (with_change objects id (with_pair_cut at))
map_cut_at_fits rules objects id at f = changed_fits rules objects id (with_pair_cut at) (record {
  kind = pair_cut_kind at;
  fit = λ object is g. pair_cut_fit rules (kinds objects) at object g;
}) f

-- units at the end of a builder
pub units_kind : (more : List ℕ) (object : Object) → may_become (kind_of object) (kind_of (with_units more object)) ≡ true
units_kind more (o.Builder units) = refl
units_kind more object = becomes_refl (kind_of object)

units_fit : (rules : Rules) (ks : List Kind) (more : List ℕ) (object : Object) → ObjectFits rules ks object → ObjectFits rules ks (with_units more object)
units_fit rules ks more (o.Builder units) f = tt
units_fit rules ks more object f = f

pub append_fits : (rules : Rules) (objects : List Object) (id : ℕ) (more : List ℕ) → Fits rules objects → Fits rules (with_change objects id (with_units more))
append_fits rules objects id more f = changed_fits rules objects id (with_units more) (record {
  kind = units_kind more;
  fit = λ object is g. units_fit rules (kinds objects) more object g;
}) f

-- units in the place of others of a builder
pub spliced_kind : (from to : ℕ) (more : List ℕ) (object : Object) → may_become (kind_of object) (kind_of (with_spliced from to more object)) ≡ true
spliced_kind from to more (o.Builder units) = refl
spliced_kind from to more object = becomes_refl (kind_of object)

spliced_fit : (rules : Rules) (ks : List Kind) (from to : ℕ) (more : List ℕ) (object : Object) → ObjectFits rules ks object → ObjectFits rules ks (with_spliced from to more object)
spliced_fit rules ks from to more (o.Builder units) f = tt
spliced_fit rules ks from to more object f = f

pub splice_fits : (rules : Rules) (objects : List Object) (id from to : ℕ) (more : List ℕ) → Fits rules objects → Fits rules (with_change objects id (with_spliced from to more))
splice_fits rules objects id from to more f = changed_fits rules objects id (with_spliced from to more) (record {
  kind = spliced_kind from to more;
  fit = λ object is g. spliced_fit rules (kinds objects) from to more object g;
}) f

-- an object that is replaced
renewed_kind : (after object : Object) (test : Bool) → may_become (kind_of object) (kind_of after) ≡ test → may_become (kind_of object) (kind_of (if test then after else object)) ≡ true
renewed_kind after object true h = h
renewed_kind after object false h = becomes_refl (kind_of object)

renewed_fit : (rules : Rules) (ks : List Kind) (after object : Object) (test : Bool) → ObjectFits rules ks after → ObjectFits rules ks object → ObjectFits rules ks (if test then after else object)
renewed_fit rules ks after object true h f = h
renewed_fit rules ks after object false h f = f

pub renew_fits : (rules : Rules) (objects : List Object) (id : ℕ) (after : Object) → Fits rules objects → ObjectFits rules (kinds objects) after → Fits rules (with_change objects id (renewed_by after))
renew_fits rules objects id after f h = changed_fits rules objects id (renewed_by after) (record {
  kind = λ object. renewed_kind after object (may_become (kind_of object) (kind_of after)) refl;
  fit = λ object is g. renewed_fit rules (kinds objects) after object (may_become (kind_of object) (kind_of after)) h g;
}) f

-- lambdas that are gone
retired_kind : (object : Object) → kind_of (retired object) ≡ kind_of object
retired_kind (o.Fun iface target captures) = refl
retired_kind object = refl

kinds-retired : (objects : List Object) → kinds (map retired objects) ≡ kinds objects
kinds-retired [] = refl
kinds-retired (x ∷ objects) = rw (retired_kind x, kinds-retired objects) refl

-- what the next program or code asks, beside the lambdas of its script, is what this one asks
pub record SamePrelude (rules next : Rules) : Type 0 where
  pub typed : rules.typed ≡ next.typed
  pub lambda : (number : ℕ) → rules.lambda Prelude number ≡ next.lambda Prelude number

retired_target_fits : (rules next : Rules) → SamePrelude rules next → (ks : List Kind) (iface : Option ℕ) (captures : List Value) (target : Target)
    → target_fits rules ks iface captures target ≡ true → target_fits next ks iface captures (retired_target target) ≡ true
retired_target_fits rules next same ks iface captures (t.Lambda Script number) f = refl
retired_target_fits rules next same ks iface captures (t.Lambda Prelude number) f = rw (← same.lambda number) f
retired_target_fits rules next same ks iface captures target f = f

retired_fits : (rules next : Rules) → SamePrelude rules next → (ks : List Kind) (object : Object) → ObjectFits rules ks object → ObjectFits next ks (retired object)
retired_fits rules next same ks (o.List class items guard changes) f = f
retired_fits rules next same ks (o.Map class pairs guard changes) f = f
retired_fits rules next same ks (o.Set class items guard changes) f = f
retired_fits rules next same ks (o.Array elem items) f = (f.0, f.1, subst (λ (w : Typed). AreElements w ks elem items) same.typed f.2)
retired_fits rules next same ks (o.View map part) f = f
retired_fits rules next same ks (o.Entry map key) f = f
retired_fits rules next same ks (o.Iter over cursor seen last) f = f
retired_fits rules next same ks (o.Builder units) f = f
retired_fits rules next same ks (o.Fun iface target captures) f = (f.0, retired_target_fits rules next same ks iface captures target f.1, f.2)
retired_fits rules next same ks (o.Exc class message) f = f

each_retired : (rules next : Rules) → SamePrelude rules next → (ks : List Kind) (objects : List Object) → ObjectsFit rules ks objects → ObjectsFit next ks (map retired objects)
each_retired rules next same ks [] f = tt
each_retired rules next same ks (x ∷ objects) f = (retired_fits rules next same ks x f.0, each_retired rules next same ks objects f.1)

pub refill_fits : (rules next : Rules) (objects : List Object) → rules.typed ≡ next.typed → ((number : ℕ) → rules.lambda Prelude number ≡ next.lambda Prelude number)
    → Fits rules objects → Fits next (map retired objects)
refill_fits rules next objects typed lambda f = record {
  each =
      rw (kinds-retired objects) (each_retired rules next (record { typed = typed; lambda = lambda }) (kinds objects) objects f.each);
}

-- what is read is there
own_items : (rules : Rules) (ks : List Kind) (object : Object) → ObjectFits rules ks object → AllFit (length ks) (object_items object)
own_items rules ks (o.List class items guard changes) f = f.1
own_items rules ks (o.Array elem items) f = f.1
own_items rules ks object f = tt

own_captures : (rules : Rules) (ks : List Kind) (object : Object) → ObjectFits rules ks object → AllFit (length ks) (object_captures object)
own_captures rules ks (o.Fun iface target captures) f = f.2
own_captures rules ks object f = tt

pub keys_pairs : (n : ℕ) (pairs : List (Value × Value)) → KeysFit pairs → PairsFit n pairs
keys_pairs n [] f = tt
keys_pairs n (pair ∷ pairs) f = (f.0, subst (ValueFits n) (sym f.1) tt, keys_pairs n pairs f.2)

own_pairs : (rules : Rules) (ks : List Kind) (object : Object) → ObjectFits rules ks object → PairsFit (length ks) (object_pairs object)
own_pairs rules ks (o.Map class pairs guard changes) f = f.1
own_pairs rules ks (o.Set class items guard changes) f = keys_pairs _ items f.1
own_pairs rules ks object f = tt

items_there : (rules : Rules) (ks : List Kind) (objects : List Object) → ObjectsFit rules ks objects → (id : ℕ) → AllFit (length ks) (items_of objects id)
items_there rules ks [] f id = tt
items_there rules ks (x ∷ objects) f zero = own_items rules ks x f.0
items_there rules ks (x ∷ objects) f (suc id) = items_there rules ks objects f.1 id

captures_there : (rules : Rules) (ks : List Kind) (objects : List Object) → ObjectsFit rules ks objects → (id : ℕ) → AllFit (length ks) (captures_of objects id)
captures_there rules ks [] f id = tt
captures_there rules ks (x ∷ objects) f zero = own_captures rules ks x f.0
captures_there rules ks (x ∷ objects) f (suc id) = captures_there rules ks objects f.1 id

pairs_there : (rules : Rules) (ks : List Kind) (objects : List Object) → ObjectsFit rules ks objects → (id : ℕ) → PairsFit (length ks) (pairs_of objects id)
pairs_there rules ks [] f id = tt
pairs_there rules ks (x ∷ objects) f zero = own_pairs rules ks x f.0
pairs_there rules ks (x ∷ objects) f (suc id) = pairs_there rules ks objects f.1 id

pub items_fit : (rules : Rules) (objects : List Object) (id : ℕ) → Fits rules objects → AllFit (length objects) (items_of objects id)
items_fit rules objects id f = subst (λ (n : ℕ). AllFit n (items_of objects id)) (length-kinds objects) (items_there rules (kinds objects) objects f.each id)

pub captures_fit : (rules : Rules) (objects : List Object) (id : ℕ) → Fits rules objects → AllFit (length objects) (captures_of objects id)
captures_fit rules objects id f = subst (λ (n : ℕ). AllFit n (captures_of objects id)) (length-kinds objects) (captures_there rules (kinds objects) objects f.each id)

pub values_fit : (rules : Rules) (objects : List Object) (id : ℕ) (key value : Value) → Fits rules objects → value_of (pairs_of objects id) key ≡ Some value → ValueFits (length objects) value
values_fit rules objects id key value f e = subst (λ (n : ℕ). ValueFits n value) (length-kinds objects) (value_there _ (pairs_of objects id) key value (pairs_there rules (kinds objects) objects f.each id) e)
