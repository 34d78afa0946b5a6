-- Pairs with distinct keys keep them distinct.
use Rattle.std.proofs.Common.{remove, suc, zero, ◌≡◌, ℕ, Bool, true, false, Option, Some, None, List, [], ◌∷◌, refl, ◌∙◌, sym, subst, if◌then◌else◌}
use Rattle.object_values.specs.declared.value.Value.{Value}
use Rattle.object_values.specs.declared.value.Value.TheVariants as v
use Rattle.object_values.specs.Values.{same_value, is_simple}
use Rattle.object_values.specs.Keys.{values_symm}
use Rattle.object_values.specs.Pairs.{value_of, with_pair, with_pairs, without_key, HasDistinctKeys}
use Rattle.object_heap.specs.Fits.{ValueFits, PairsFit, KeysFit}

-- a key that is not found is not the first, and is not found behind it
pub not_found : (test : Bool) (value : Value) (rest : Option Value) → (if test then Some value else rest) ≡ None → (test ≡ false) × (rest ≡ None)
not_found true value rest h = cc
not_found false value rest h = (refl, h)

passed_by : (test : Bool) (value : Value) (rest : Option Value) → test ≡ false → rest ≡ None → (if test then Some value else rest) ≡ None
passed_by true value rest e h = cc
passed_by false value rest e h = h

absent_with : (pairs : List (Value × Value)) (key value other : Value) → value_of pairs other ≡ None → same_value other key ≡ false → value_of (with_pair pairs key value) other ≡ None
absent_with [] key value other h e = passed_by (same_value other key) value None e refl
absent_with (pair ∷ pairs) key value other h e =
    let apart = not_found (same_value other pair.0) pair.1 (value_of pairs other) h in
    elim (same_value key pair.0) as (λ b. value_of (if b then (pair.0, value) ∷ pairs else pair ∷ with_pair pairs key value) other ≡ None) [
      | true ↦ passed_by (same_value other pair.0) value (value_of pairs other) apart.0 apart.1
      | false ↦ passed_by (same_value other pair.0) pair.1 (value_of (with_pair pairs key value) other) apart.0 (absent_with pairs key value other apart.1 e)
    ]

absent_without : (pairs : List (Value × Value)) (key other : Value) → value_of pairs other ≡ None → value_of (without_key pairs key) other ≡ None
absent_without [] key other h = refl
absent_without (pair ∷ pairs) key other h =
    let apart = not_found (same_value other pair.0) pair.1 (value_of pairs other) h in
    elim (same_value key pair.0) as (λ b. value_of (if b then pairs else pair ∷ without_key pairs key) other ≡ None) [
      | true ↦ apart.1
      | false ↦ passed_by (same_value other pair.0) pair.1 (value_of (without_key pairs key) other) apart.0 (absent_without pairs key other apart.1)
    ]

distinct_if : (pair : Value × Value) (pairs : List (Value × Value)) (key value : Value) (test : Bool) → same_value key pair.0 ≡ test
    → HasDistinctKeys (pair ∷ pairs) → HasDistinctKeys (with_pair pairs key value) → HasDistinctKeys (if test then (pair.0, value) ∷ pairs else pair ∷ with_pair pairs key value)
distinct_if pair pairs key value true e f g = f
distinct_if pair pairs key value false e f g = (absent_with pairs key value pair.0 f.0 (values_symm pair.0 key ∙ e), g)

pub distinct_with : (pairs : List (Value × Value)) (key value : Value) → HasDistinctKeys pairs → HasDistinctKeys (with_pair pairs key value)
distinct_with [] key value f = (refl, tt)
distinct_with (pair ∷ pairs) key value f = distinct_if pair pairs key value (same_value key pair.0) refl f (distinct_with pairs key value f.1)

pub distinct_without : (pairs : List (Value × Value)) (key : Value) → HasDistinctKeys pairs → HasDistinctKeys (without_key pairs key)
distinct_without [] key f = tt
distinct_without (pair ∷ pairs) key f =
    elim (same_value key pair.0) as (λ b. HasDistinctKeys (if b then pairs else pair ∷ without_key pairs key))
    [ true ↦ f.1 | false ↦ (absent_without pairs key pair.0 f.0, distinct_without pairs key f.1) ]

absent_removed : (pairs : List (Value × Value)) (at : ℕ) (other : Value) → value_of pairs other ≡ None → value_of (remove pairs at) other ≡ None
absent_removed [] zero other h = refl
absent_removed [] (suc at) other h = refl
absent_removed (pair ∷ pairs) zero other h = (not_found (same_value other pair.0) pair.1 (value_of pairs other) h).1
absent_removed (pair ∷ pairs) (suc at) other h =
    let apart = not_found (same_value other pair.0) pair.1 (value_of pairs other) h in
    passed_by (same_value other pair.0) pair.1 (value_of (remove pairs at) other) apart.0 (absent_removed pairs at other apart.1)

pub distinct_removed : (pairs : List (Value × Value)) (at : ℕ) → HasDistinctKeys pairs → HasDistinctKeys (remove pairs at)
distinct_removed [] zero f = tt
distinct_removed [] (suc at) f = tt
distinct_removed (pair ∷ pairs) zero f = f.1
distinct_removed (pair ∷ pairs) (suc at) f = (absent_removed pairs at pair.0 f.0, distinct_removed pairs at f.1)

pub pairs_removed : (n : ℕ) (pairs : List (Value × Value)) (at : ℕ) → PairsFit n pairs → PairsFit n (remove pairs at)
pairs_removed n [] zero f = tt
pairs_removed n [] (suc at) f = tt
pairs_removed n (pair ∷ pairs) zero f = f.2
pairs_removed n (pair ∷ pairs) (suc at) f = (f.0, f.1, pairs_removed n pairs at f.2)

pub keys_removed : (pairs : List (Value × Value)) (at : ℕ) → KeysFit pairs → KeysFit (remove pairs at)
keys_removed [] zero f = tt
keys_removed [] (suc at) f = tt
keys_removed (pair ∷ pairs) zero f = f.2
keys_removed (pair ∷ pairs) (suc at) f = (f.0, f.1, keys_removed pairs at f.2)

pub pairs_with : (n : ℕ) (pairs : List (Value × Value)) (key value : Value) → is_simple key ≡ true → ValueFits n value → PairsFit n pairs → PairsFit n (with_pair pairs key value)
pairs_with n [] key value k h f = (k, h, tt)
pairs_with n (pair ∷ pairs) key value k h f =
    elim (same_value key pair.0) as (λ b. PairsFit n (if b then (pair.0, value) ∷ pairs else pair ∷ with_pair pairs key value))
    [ true ↦ (f.0, h, f.2) | false ↦ (f.0, f.1, pairs_with n pairs key value k h f.2) ]

-- pairs that are put behind one another
pub distinct_with_all : (more pairs : List (Value × Value)) → HasDistinctKeys pairs → HasDistinctKeys (with_pairs pairs more)
distinct_with_all [] pairs f = f
distinct_with_all (pair ∷ more) pairs f = distinct_with_all more (with_pair pairs pair.0 pair.1) (distinct_with pairs pair.0 pair.1 f)

pub pairs_with_all : (n : ℕ) (more pairs : List (Value × Value)) → PairsFit n more → PairsFit n pairs → PairsFit n (with_pairs pairs more)
pairs_with_all n [] pairs h f = f
pairs_with_all n (pair ∷ more) pairs h f = pairs_with_all n more (with_pair pairs pair.0 pair.1) h.2 (pairs_with n pairs pair.0 pair.1 h.0 h.1 f)

pub pairs_without : (n : ℕ) (pairs : List (Value × Value)) (key : Value) → PairsFit n pairs → PairsFit n (without_key pairs key)
pairs_without n [] key f = tt
pairs_without n (pair ∷ pairs) key f =
    elim (same_value key pair.0) as (λ b. PairsFit n (if b then pairs else pair ∷ without_key pairs key))
    [ true ↦ f.2 | false ↦ (f.0, f.1, pairs_without n pairs key f.2) ]

pub keys_with : (pairs : List (Value × Value)) (key : Value) → is_simple key ≡ true → KeysFit pairs → KeysFit (with_pair pairs key v.Null)
keys_with [] key k f = (k, refl, tt)
keys_with (pair ∷ pairs) key k f =
    elim (same_value key pair.0) as (λ b. KeysFit (if b then (pair.0, v.Null) ∷ pairs else pair ∷ with_pair pairs key v.Null))
    [ true ↦ (f.0, refl, f.2) | false ↦ (f.0, f.1, keys_with pairs key k f.2) ]

pub keys_with_all : (more pairs : List (Value × Value)) → KeysFit more → KeysFit pairs → KeysFit (with_pairs pairs more)
keys_with_all [] pairs h f = f
keys_with_all (pair ∷ more) pairs h f =
    keys_with_all more (with_pair pairs pair.0 pair.1) h.2 (subst (λ (value : Value). KeysFit (with_pair pairs pair.0 value)) (sym h.1) (keys_with pairs pair.0 h.0 f))

pub keys_without : (pairs : List (Value × Value)) (key : Value) → KeysFit pairs → KeysFit (without_key pairs key)
keys_without [] key f = tt
keys_without (pair ∷ pairs) key f =
    elim (same_value key pair.0) as (λ b. KeysFit (if b then pairs else pair ∷ without_key pairs key))
    [ true ↦ f.2 | false ↦ (f.0, f.1, keys_without pairs key f.2) ]

-- what a key has is there
found_there : (n : ℕ) (here value : Value) (rest : Option Value) (test : Bool) → ValueFits n here → (rest ≡ Some value → ValueFits n value)
    → (if test then Some here else rest) ≡ Some value → ValueFits n value
found_there n here value rest true f g e = let same : here ≡ value = cc in subst (ValueFits n) same f
found_there n here value rest false f g e = g e

pub value_there : (n : ℕ) (pairs : List (Value × Value)) (key value : Value) → PairsFit n pairs → value_of pairs key ≡ Some value → ValueFits n value
value_there n [] key value f e = cc
value_there n (pair ∷ pairs) key value f e = found_there n pair.1 value (value_of pairs key) (same_value key pair.0) f.1 (value_there n pairs key value f.2) e
