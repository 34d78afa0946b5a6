-- How changes of objects change the weight of a store.
use Rattle.std.proofs.Common.{◌≡◌, ℕ, zero, suc, ◌+◌, ◌-◌, ◌*◌, ◌≤◌, ◌∙◌, Bool, true, false, Option, Some, None, List, [], ◌∷◌, ◌++◌, length, take, drop, refl, ap, add-one, arith, length-append, slice_get, if◌then◌else◌}
use Rattle.std.proofs.lemmas.List.{length-drop, length-take-le}
use Rattle.std.proofs.lemmas.List.Edits.{length-insert}
use Rattle.std.proofs.lemmas.Bool.Decides.{nat_tests}
use Rattle.object_values.specs.declared.value.Value.{Value}
use Rattle.object_values.specs.declared.value.Value.TheVariants as v
use Rattle.object_values.specs.declared.object.Object.{Object}
use Rattle.object_values.specs.declared.object.Object.TheVariants as o
use Rattle.object_values.specs.Pairs.{value_of, key_at, with_pair, with_pairs, HasDistinctKeys}
use Rattle.object_values.specs.Values.{same_value}
use Rattle.object_values.specs.Keys.{values_symm}
use Rattle.object_heap.specs.Objects.{weight_of, with_inserted, insert_growth, with_all_inserted, insert_all_growth, with_put, with_all_put, with_units, units_growth, with_spliced, splice_growth, put_growth, put_all_growth, new_growth, new_key, new_keys, renewed_by, renewal_growth, may_become, kind_of}
use Rattle.object_heap.specs.Parts.{asked}
use Rattle.object_heap.specs.Store.{weight, changed_at, changed_one}
use Rattle.object_heap.proofs.PairLemmas.{not_found}

weight-append : (objects : List Object) (object : Object) → weight (objects ++ object ∷ []) ≡ weight objects + weight_of object
weight-append [] object = omega arith
weight-append (x ∷ objects) object = omega (arith, weight-append objects object)

pub cons_changed : (x : Object) (objects : List Object) (id : ℕ) (change : Object → Object) (found : Option Object) → changed_at (x ∷ objects) (suc id) change found ≡ x ∷ changed_at objects id change found
cons_changed x objects id change None = refl
cons_changed x objects id change (Some object) = refl

-- what a change of one object adds to the weight of them all is what it adds to that one
pub change_grows : (objects : List Object) (id : ℕ) (change : Object → Object) (growth : Object → ℕ)
    → ((object : Object) → weight_of (change object) - weight_of object ≡ growth object)
    → weight (changed_one objects id change) - weight objects ≡ asked growth 0 (slice_get objects id)
change_grows [] id change growth h = omega arith
change_grows (x ∷ objects) zero change growth h = omega (arith, h x)
change_grows (x ∷ objects) (suc id) change growth h =
    omega (arith, ap weight (cons_changed x objects id change (slice_get objects id)), change_grows objects id change growth h)

inserted_weighs : (at : ℕ) (value : Value) (object : Object) → weight_of (with_inserted at value object) - weight_of object ≡ insert_growth at object
unfolding weight_of
inserted_weighs at value (o.List class items guard changes) = grind (arith, nat_tests, length-insert)
inserted_weighs at value object = omega arith

pub insert_grows : (objects : List Object) (id at : ℕ) (value : Value)
    → weight (changed_one objects id (with_inserted at value)) - weight objects ≡ asked (insert_growth at) 0 (slice_get objects id)
insert_grows objects id at value = change_grows objects id _ _ (inserted_weighs at value)

length-between : (at : ℕ) (items more : List Value) → at ≤ length items → length (take at items ++ more ++ drop at items) ≡ length items + length more
length-between zero items more h = omega (arith, length-append more items)
length-between (suc at) [] more h = absurd (omega arith)
length-between (suc at) (item ∷ items) more h = omega (arith, length-between at items more (omega arith))

all_inserted_weighs : (at : ℕ) (more : List Value) (object : Object) → weight_of (with_all_inserted at more object) - weight_of object ≡ insert_all_growth at (length more) object
unfolding weight_of
all_inserted_weighs at more (o.List class items guard changes) = grind (arith, nat_tests, length-between)
all_inserted_weighs at more object = omega arith

pub insert_all_grows : (objects : List Object) (id at : ℕ) (more : List Value)
    → weight (changed_one objects id (with_all_inserted at more)) - weight objects ≡ asked (insert_all_growth at (length more)) 0 (slice_get objects id)
insert_all_grows objects id at more = change_grows objects id _ _ (all_inserted_weighs at more)

weight-append_all : (objects more : List Object) → weight (objects ++ more) ≡ weight objects + weight more
weight-append_all [] more = omega arith
weight-append_all (x ∷ objects) more = omega (arith, weight-append_all objects more)

pub all_grow : (objects more : List Object) → weight (objects ++ more) - weight objects ≡ weight more
all_grow objects more = omega (arith, weight-append_all objects more)

-- the weight of the objects from a place on is that of the one there and of those behind it
weight_behind : (objects : List Object) (at : ℕ) (object : Object) → slice_get objects at ≡ Some object → weight (drop at objects) ≡ weight_of object + weight (drop (suc at) objects)
weight_behind [] at object h = cc
weight_behind (x ∷ objects) zero object h = let same : x ≡ object = cc in ap (λ (o : Object). weight_of o + weight objects) same
weight_behind (x ∷ objects) (suc at) object h = weight_behind objects at object h

pub weight_from : (objects : List Object) (at : ℕ) (object : Object) → slice_get objects at ≡ Some object → weight (drop at objects) ≡ weight_of object + weight (drop (at + 1) objects)
weight_from objects at object h = rw (add-one) (weight_behind objects at object h)

pub add_grows : (objects : List Object) (object : Object) → weight (objects ++ object ∷ []) - weight objects ≡ weight_of object
add_grows objects object = omega (arith, weight-append objects object)

units_weigh : (more : List ℕ) (object : Object) → weight_of (with_units more object) - weight_of object ≡ units_growth (length more) object
unfolding weight_of
units_weigh more (o.Builder units) = omega (arith, length-append units more)
units_weigh more object = omega arith

pub append_grows : (objects : List Object) (id : ℕ) (more : List ℕ)
    → weight (changed_one objects id (with_units more)) - weight objects ≡ asked (units_growth (length more)) 0 (slice_get objects id)
append_grows objects id more = change_grows objects id _ _ (units_weigh more)

length-spliced : (from to : ℕ) (units more : List ℕ) → from ≤ to → to ≤ length units → length (take from units ++ more ++ drop to units) + (to - from) ≡ length units + length more
length-spliced from to units more h g =
    omega (arith, length-append (take from units ++ more) (drop to units), length-append (take from units) more, length-take-le from units (omega arith), length-drop to units)

spliced_weighs : (from to : ℕ) (more : List ℕ) (object : Object) → weight_of (with_spliced from to more object) - weight_of object ≡ splice_growth from to (length more) object
unfolding weight_of
spliced_weighs from to more (o.Builder units) = grind (arith, nat_tests, length-spliced)
spliced_weighs from to more object = omega arith

pub splice_grows : (objects : List Object) (id from to : ℕ) (more : List ℕ)
    → weight (changed_one objects id (with_spliced from to more)) - weight objects ≡ asked (splice_growth from to (length more)) 0 (slice_get objects id)
splice_grows objects id from to more = change_grows objects id _ _ (spliced_weighs from to more)

length-with_pair : (pairs : List (Value × Value)) (key value : Value) → length (with_pair pairs key value) ≡ length pairs + new_growth (value_of pairs key) 1
length-with_pair [] key value = refl
length-with_pair (pair ∷ pairs) key value =
    elim (same_value key pair.0) as (λ b. length (if b then (pair.0, value) ∷ pairs else pair ∷ with_pair pairs key value) ≡ suc (length pairs) + new_growth (if b then Some pair.1 else value_of pairs key) 1)
    [ true ↦ omega arith | false ↦ omega (arith, length-with_pair pairs key value) ]

twice : (found : Option Value) → new_growth found 2 ≡ 2 * new_growth found 1
twice None = refl
twice (Some before) = refl

put_weighs : (key value : Value) (object : Object) → weight_of (with_put key value object) - weight_of object ≡ put_growth key object
unfolding weight_of
put_weighs key value (o.Map class pairs guard changes) = omega (arith, length-with_pair pairs key value, twice (value_of pairs key))
put_weighs key value (o.Set class items guard changes) = omega (arith, length-with_pair items key v.Null)
put_weighs key value object = omega arith

pub put_grows : (objects : List Object) (id : ℕ) (key value : Value)
    → weight (changed_one objects id (with_put key value)) - weight objects ≡ asked (put_growth key) 0 (slice_get objects id)
put_grows objects id key value = change_grows objects id _ _ (put_weighs key value)

-- a put changes nothing of whether another key is there
here_either : (test : Bool) (a b : Value) (rest : Option Value) → new_growth (if test then Some a else rest) 1 ≡ new_growth (if test then Some b else rest) 1
here_either true a b rest = refl
here_either false a b rest = refl

behind_either : (test : Bool) (a : Value) (x y : Option Value) → new_growth x 1 ≡ new_growth y 1 → new_growth (if test then Some a else x) 1 ≡ new_growth (if test then Some a else y) 1
behind_either true a x y h = refl
behind_either false a x y h = h

other_stays : (pairs : List (Value × Value)) (key value other : Value) → same_value other key ≡ false → new_growth (value_of (with_pair pairs key value) other) 1 ≡ new_growth (value_of pairs other) 1
other_stays [] key value other h = rw h refl
other_stays (pair ∷ pairs) key value other h =
    elim (same_value key pair.0) as (λ b. new_growth (value_of (if b then (pair.0, value) ∷ pairs else pair ∷ with_pair pairs key value) other) 1 ≡ new_growth (value_of (pair ∷ pairs) other) 1) [
      | true ↦ here_either (same_value other pair.0) value pair.1 (value_of pairs other)
      | false ↦ behind_either (same_value other pair.0) pair.1 (value_of (with_pair pairs key value) other) (value_of pairs other) (other_stays pairs key value other h)
    ]

new_keys_stay : (more pairs : List (Value × Value)) (key value : Value) → value_of more key ≡ None → new_keys (with_pair pairs key value) more ≡ new_keys pairs more
new_keys_stay [] pairs key value h = refl
new_keys_stay (pair ∷ more) pairs key value h =
    let apart = not_found (same_value key pair.0) pair.1 (value_of more key) h in
    omega (arith, other_stays pairs key value pair.0 (values_symm pair.0 key ∙ apart.0), new_keys_stay more pairs key value apart.1)

length-with_pairs : (more pairs : List (Value × Value)) → HasDistinctKeys more → length (with_pairs pairs more) ≡ length pairs + new_keys pairs more
length-with_pairs [] pairs d = omega arith
length-with_pairs (pair ∷ more) pairs d =
    omega (arith, length-with_pairs more (with_pair pairs pair.0 pair.1) d.1, length-with_pair pairs pair.0 pair.1, new_keys_stay more pairs pair.0 pair.1 d.0)

put_all_weighs : (more : List (Value × Value)) → HasDistinctKeys more → (object : Object) → weight_of (with_all_put more object) - weight_of object ≡ put_all_growth more object
unfolding weight_of
put_all_weighs more d (o.Map class pairs guard changes) = omega (arith, length-with_pairs more pairs d)
put_all_weighs more d (o.Set class items guard changes) = omega (arith, length-with_pairs more items d)
put_all_weighs more d object = omega arith

pub put_all_grows : (objects : List Object) (id : ℕ) (more : List (Value × Value)) → HasDistinctKeys more
    → weight (changed_one objects id (with_all_put more)) - weight objects ≡ asked (put_all_growth more) 0 (slice_get objects id)
put_all_grows objects id more d = change_grows objects id _ _ (put_all_weighs more d)

-- the new keys from a place on are the one there and those behind it
new_behind : (pairs more : List (Value × Value)) (at : ℕ) → new_keys pairs (drop at more) ≡ new_key pairs (key_at more at) + new_keys pairs (drop (suc at) more)
new_behind pairs [] zero = refl
new_behind pairs [] (suc at) = refl
new_behind pairs (pair ∷ more) zero = refl
new_behind pairs (pair ∷ more) (suc at) = new_behind pairs more at

pub new_from : (pairs more : List (Value × Value)) (at : ℕ) → new_keys pairs (drop at more) ≡ new_key pairs (key_at more at) + new_keys pairs (drop (at + 1) more)
new_from pairs more at = rw (add-one) (new_behind pairs more at)

at_most_one : (found : Option Value) → new_growth found 1 ≤ 1
at_most_one None = omega arith
at_most_one (Some before) = omega arith

pub one_key : (pairs : List (Value × Value)) (key : Option Value) → new_key pairs key ≤ 1
one_key pairs None = omega arith
one_key pairs (Some key) = at_most_one (value_of pairs key)

renewal_weighs : (after object : Object) → weight_of (renewed_by after object) - weight_of object ≡ renewal_growth after object
renewal_weighs after object =
    elim (may_become (kind_of object) (kind_of after)) as (λ b. weight_of (if b then after else object) - weight_of object ≡ (if b then weight_of after - weight_of object else 0))
    [ true ↦ refl | false ↦ omega arith ]

pub renewal_grows : (objects : List Object) (id : ℕ) (after : Object)
    → weight (changed_one objects id (renewed_by after)) - weight objects ≡ asked (renewal_growth after) 0 (slice_get objects id)
renewal_grows objects id after = change_grows objects id _ _ (renewal_weighs after)
