-- Pairs of keys and values, in the order in which the keys came.
use Rattle.std.specs.Prelude.{◌≡◌, ℕ, true, Option, Some, None, List, [], ◌∷◌, slice_get, if◌then◌else◌}
use Rattle.object_values.specs.declared.value.Value.{Value}
use Rattle.object_values.specs.Values.{same_value}

-- the value of a key
abbrev pub value_of : List (Value × Value) → Value → Option Value
value_of [] key = None
value_of (pair ∷ pairs) key = if same_value key pair.0 then Some pair.1 else value_of pairs key

-- with a value under a key: one that is there keeps its place, and a new one goes last
abbrev pub with_pair : List (Value × Value) → Value → Value → List (Value × Value)
with_pair [] key value = (key, value) ∷ []
with_pair (pair ∷ pairs) key value = if same_value key pair.0 then (pair.0, value) ∷ pairs else pair ∷ with_pair pairs key value

-- with further pairs put in their order
abbrev pub with_pairs : List (Value × Value) → List (Value × Value) → List (Value × Value)
with_pairs pairs [] = pairs
with_pairs pairs (pair ∷ more) = with_pairs (with_pair pairs pair.0 pair.1) more

-- without a key
abbrev pub without_key : List (Value × Value) → Value → List (Value × Value)
without_key [] key = []
without_key (pair ∷ pairs) key = if same_value key pair.0 then pairs else pair ∷ without_key pairs key

-- no two keys are one
abbrev pub HasDistinctKeys : List (Value × Value) → Type 0
HasDistinctKeys [] = Unit {0}
HasDistinctKeys (pair ∷ pairs) = (value_of pairs pair.0 ≡ None) × HasDistinctKeys pairs

-- the key and the value of a pair, if there is one
abbrev pub key_in : Option (Value × Value) → Option Value
key_in None = None
key_in (Some pair) = Some pair.0

abbrev pub value_in : Option (Value × Value) → Option Value
value_in None = None
value_in (Some pair) = Some pair.1

-- the key and the value at a place
abbrev pub key_at : List (Value × Value) → ℕ → Option Value
key_at pairs at = key_in (slice_get pairs at)

abbrev pub pair_value_at : List (Value × Value) → ℕ → Option Value
pair_value_at pairs at = value_in (slice_get pairs at)

-- a key stands at a place
pub record StandsAt (pairs : List (Value × Value)) (key : Value) (at : ℕ) : Type 0 where
  pub pair : Value × Value
  pub here : slice_get pairs at ≡ Some pair
  pub same : same_value key pair.0 ≡ true

-- no key of further pairs is there
abbrev pub AreNew : List (Value × Value) → List (Value × Value) → Type 0
AreNew pairs [] = Unit {0}
AreNew pairs (pair ∷ more) = (value_of pairs pair.0 ≡ None) × AreNew pairs more
