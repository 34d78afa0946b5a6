-- Looking up, setting and taking out, by the map's words and by ours.
use Rattle.std.proofs.Common.{◌≡◌, Bool, true, false, cond, Some, None, List, [], ◌∷◌, refl, ap, subst, if◌then◌else◌}
use Rattle.std.specs.Map.{lookup, lookup_key, remove_entry, keys_of}
use Rattle.std.specs.List.{IsDistinct, AllByRecursion}
use Rattle.indexmap.specs.IndexMap.{insert_entry, insert_all}
use Rattle.object_values.specs.declared.value.Value.{Value}
use Rattle.object_values.specs.Values.{same_value}
use Rattle.object_values.specs.Pairs.{value_of, with_pair, with_pairs, without_key, HasDistinctKeys}

pub puts : (pairs : List (Value × Value)) (key value : Value) → insert_entry same_value pairs key value ≡ with_pair pairs key value
puts [] key value = refl
puts (pair ∷ pairs) key value = ap (λ rest. if same_value key pair.0 then (pair.0, value) ∷ pairs else pair ∷ rest) (puts pairs key value)

pub puts_all : (pairs more : List (Value × Value)) → insert_all same_value pairs more ≡ with_pairs pairs more
puts_all pairs [] = refl
puts_all pairs (pair ∷ more) = rw (puts pairs pair.0 pair.1) (puts_all (with_pair pairs pair.0 pair.1) more)

pub finds : (pairs : List (Value × Value)) (key : Value) → lookup (same_value key) pairs ≡ value_of pairs key
finds [] key = refl
finds (pair ∷ pairs) key = ap (λ rest. if same_value key pair.0 then Some pair.1 else rest) (finds pairs key)

pub cuts : (pairs : List (Value × Value)) (key : Value) → remove_entry (same_value key) pairs ≡ without_key pairs key
cuts [] key = refl
cuts (pair ∷ pairs) key = ap (λ rest. if same_value key pair.0 then pairs else pair ∷ rest) (cuts pairs key)

none_found : (pairs : List (Value × Value)) (key : Value) → AllByRecursion (λ other. same_value key other ≡ false) (keys_of pairs) → value_of pairs key ≡ None
none_found [] key h = refl
none_found (pair ∷ pairs) key h = rw h.0 (none_found pairs key h.1)

-- the keys of a map are distinct
pub distinct : (pairs : List (Value × Value)) → IsDistinct same_value (keys_of pairs) → HasDistinctKeys pairs
unfolding IsDistinct
distinct [] h = tt
distinct (pair ∷ pairs) h = (none_found pairs pair.0 h.0, distinct pairs h.1)

-- a key that the map found is the one that was looked for
passes_if : (pair : Value × Value) (pairs : List (Value × Value)) (key found : Value) (test : Bool) → same_value key pair.0 ≡ test → cond test (Some pair.0) (lookup_key (same_value key) pairs) ≡ Some found
    → (lookup_key (same_value key) pairs ≡ Some found → same_value key found ≡ true) → same_value key found ≡ true
passes_if pair pairs key found true e h next = let one : pair.0 ≡ found = cc in subst (λ (k : Value). same_value key k ≡ true) one e
passes_if pair pairs key found false e h next = next h

pub passes : (pairs : List (Value × Value)) (key found : Value) → lookup_key (same_value key) pairs ≡ Some found → same_value key found ≡ true
passes [] key found h = cc
passes (pair ∷ pairs) key found h = passes_if pair pairs key found (same_value key pair.0) refl h (passes pairs key found)
