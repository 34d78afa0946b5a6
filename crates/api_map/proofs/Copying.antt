-- Pairs that are put one after the other into none.
use Rattle.std.proofs.Common.{◌≡◌, ℕ, ◌+◌, Bool, true, false, Option, Some, None, List, [], ◌∷◌, ◌++◌, drop, slice_get, refl, ap, sym, ◌∙◌, subst, if◌then◌else◌, append_assoc, append-nil}
use Rattle.object_values.specs.declared.value.Value.{Value}
use Rattle.object_values.specs.declared.value.Value.TheVariants as v
use Rattle.object_values.specs.Pairs.{HasDistinctKeys, value_of, with_pair, with_pairs}
use Rattle.object_values.specs.Keys.{values_symm}
use Rattle.object_values.specs.Values.{is_simple, same_value}
use Rattle.object_values.specs.declared.object.Guard.{Guard}
use Rattle.value_walks.proofs.Stepping.{got}
use Rattle.api_map.specs.Guards.{may_put, may_put_all}
use Rattle.api_map.specs.Sources.{all_simple, with_keys}

-- a new key goes last
put_if : (pair : Value × Value) (pairs : List (Value × Value)) (key value : Value) (test : Bool) → same_value key pair.0 ≡ test → (if test then Some pair.1 else value_of pairs key) ≡ None
    → (value_of pairs key ≡ None → with_pair pairs key value ≡ pairs ++ (key, value) ∷ [])
    → (if test then (pair.0, value) ∷ pairs else pair ∷ with_pair pairs key value) ≡ pair ∷ pairs ++ (key, value) ∷ []
put_if pair pairs key value true e h next = cc
put_if pair pairs key value false e h next = ap (λ (rest : List (Value × Value)). pair ∷ rest) (next h)

put_last : (pairs : List (Value × Value)) (key value : Value) → value_of pairs key ≡ None → with_pair pairs key value ≡ pairs ++ (key, value) ∷ []
put_last [] key value h = refl
put_last (pair ∷ pairs) key value h = put_if pair pairs key value (same_value key pair.0) refl h (put_last pairs key value)

-- keys that are in neither of two lists
absent_if : (pair : Value × Value) (front more : List (Value × Value)) (key : Value) (test : Bool) → (if test then Some pair.1 else value_of front key) ≡ None
    → (value_of front key ≡ None → value_of (front ++ more) key ≡ None) → (if test then Some pair.1 else value_of (front ++ more) key) ≡ None
absent_if pair front more key true h next = cc
absent_if pair front more key false h next = next h

absent_both : (front more : List (Value × Value)) (key : Value) → value_of front key ≡ None → value_of more key ≡ None → value_of (front ++ more) key ≡ None
absent_both [] more key f g = g
absent_both (pair ∷ front) more key f g = absent_if pair front more key (same_value key pair.0) f (λ h. absent_both front more key h g)

-- no key of some pairs is one of others'
abbrev pub AreNew : List (Value × Value) → List (Value × Value) → Type 0
AreNew front [] = Unit {0}
AreNew front (pair ∷ pairs) = (value_of front pair.0 ≡ None) × AreNew front pairs

absent_test : (test : Bool) (value : Value) (rest : Option Value) → (if test then Some value else rest) ≡ None → test ≡ false
absent_test true value rest h = cc
absent_test false value rest h = refl

pub absent_one : (pair : Value × Value) (pairs : List (Value × Value)) (key : Value) → value_of (pair ∷ pairs) key ≡ None → same_value key pair.0 ≡ false
absent_one pair pairs key h = absent_test (same_value key pair.0) pair.1 (value_of pairs key) h

pub absent_rest : (pair : Value × Value) (pairs : List (Value × Value)) (key : Value) → value_of (pair ∷ pairs) key ≡ None → value_of pairs key ≡ None
absent_rest pair pairs key h = subst (λ (b : Bool). (if b then Some pair.1 else value_of pairs key) ≡ None) (absent_one pair pairs key h) h

absent_single : (pair : Value × Value) (key : Value) → same_value key pair.0 ≡ false → value_of (pair ∷ []) key ≡ None
absent_single pair key e = subst (λ (b : Bool). (if b then Some pair.1 else None) ≡ None) (sym e) refl

new_step : (front : List (Value × Value)) (pair : Value × Value) (pairs : List (Value × Value)) → AreNew front pairs → value_of pairs pair.0 ≡ None → AreNew (front ++ pair ∷ []) pairs
new_step front pair [] f h = tt
new_step front pair (next ∷ pairs) f h =
    (absent_both front (pair ∷ []) next.0 f.0 (absent_single pair next.0 (values_symm next.0 pair.0 ∙ absent_one next pairs pair.0 h)), new_step front pair pairs f.1 (absent_rest next pairs pair.0 h))

copied_behind : (front pairs : List (Value × Value)) → AreNew front pairs → HasDistinctKeys pairs → with_pairs front pairs ≡ front ++ pairs
copied_behind front [] f d = sym (append-nil front)
copied_behind front (pair ∷ pairs) f d =
    ap (λ (rest : List (Value × Value)). with_pairs rest pairs) (put_last front pair.0 pair.1 f.0)
    ∙ (copied_behind (front ++ pair ∷ []) pairs (new_step front pair pairs f.1 d.0) d.1
    ∙ append_assoc front (pair ∷ []) pairs)

are_new : (pairs : List (Value × Value)) → AreNew [] pairs
are_new [] = tt
are_new (pair ∷ pairs) = (refl, are_new pairs)

pub all_copied : (pairs : List (Value × Value)) → HasDistinctKeys pairs → with_pairs [] pairs ≡ pairs
all_copied pairs d = copied_behind [] pairs (are_new pairs) d

-- steps of loops
pub key_step : (pairs : List (Value × Value)) (keys : List Value) (at : ℕ) (key : Value) → slice_get keys at ≡ Some key → with_keys pairs (drop at keys) ≡ with_keys (with_pair pairs key v.Null) (drop (at + 1) keys)
key_step pairs keys at key h = ap (λ (rest : List Value). with_keys pairs rest) (got keys at key h)

pub pair_step : (pairs more : List (Value × Value)) (at : ℕ) (pair : Value × Value) → slice_get more at ≡ Some pair → with_pairs pairs (drop at more) ≡ with_pairs (with_pair pairs pair.0 pair.1) (drop (at + 1) more)
pair_step pairs more at pair h = ap (λ (rest : List (Value × Value)). with_pairs pairs rest) (got more at pair h)

simple_step : (values : List Value) (at : ℕ) (value : Value) → slice_get values at ≡ Some value → all_simple (drop at values) ≡ (if is_simple value then all_simple (drop (at + 1) values) else false)
simple_step values at value h = ap all_simple (got values at value h)

pub not_simple_behind : (values : List Value) (at : ℕ) (value : Value) → slice_get values at ≡ Some value → is_simple value ≡ false → all_simple (drop at values) ≡ false
not_simple_behind values at value h e = simple_step values at value h ∙ ap (λ (b : Bool). if b then all_simple (drop (at + 1) values) else false) e

pub simple_behind : (values : List Value) (at : ℕ) (value : Value) → slice_get values at ≡ Some value → is_simple value ≡ true → all_simple (drop at values) ≡ all_simple (drop (at + 1) values)
simple_behind values at value h e = simple_step values at value h ∙ ap (λ (b : Bool). if b then all_simple (drop (at + 1) values) else false) e

puts_step : (guard : Option Guard) (pairs : List (Value × Value)) (at : ℕ) (pair : Value × Value) (is : Bool) → slice_get pairs at ≡ Some pair → may_put guard pair.0 ≡ is
    → may_put_all guard (drop at pairs) ≡ (if is then may_put_all guard (drop (at + 1) pairs) else false)
puts_step guard pairs at pair is h e =
    ap (λ (rest : List (Value × Value)). may_put_all guard rest) (got pairs at pair h)
    ∙ ap (λ (b : Bool). if b then may_put_all guard (drop (at + 1) pairs) else false) e

pub no_put_behind : (guard : Option Guard) (pairs : List (Value × Value)) (at : ℕ) (pair : Value × Value) → slice_get pairs at ≡ Some pair → may_put guard pair.0 ≡ false → may_put_all guard (drop at pairs) ≡ false
no_put_behind guard pairs at pair h e = puts_step guard pairs at pair false h e

pub put_behind : (guard : Option Guard) (pairs : List (Value × Value)) (at : ℕ) (pair : Value × Value) → slice_get pairs at ≡ Some pair → may_put guard pair.0 ≡ true
    → may_put_all guard (drop at pairs) ≡ may_put_all guard (drop (at + 1) pairs)
put_behind guard pairs at pair h e = puts_step guard pairs at pair true h e
