-- The JSON form of a map without some of its keys.
use Rattle.std.specs.Prelude.{Bool, true, false, List, [], ◌∷◌, Result, if◌then◌else◌}
use Rattle.serde_json.specs.Data.{Data}
use Rattle.object_values.specs.declared.value.Value.{Value}
use Rattle.object_values.specs.declared.object.Object.{Object}
use Rattle.object_values.specs.Values.{same_value}
use Rattle.json_bridge.specs.Giving.{Fault, AValue, answer_of, map_given, node_at}

abbrev pub is_one_of : List Value → Value → Bool
is_one_of [] key = false
is_one_of (one ∷ keys) key = if same_value key one then true else is_one_of keys key

-- the pairs but those of these keys
abbrev pub without : List Value → List (Value × Value) → List (Value × Value)
without keys [] = []
without keys (pair ∷ pairs) = if is_one_of keys pair.0 then without keys pairs else pair ∷ without keys pairs

-- The JSON form of a map of these pairs without those of some keys, or its first fault: the map itself is at depth 1 and the first of the
-- 1,000,000 nodes, and what is left out is no node.
unfoldable pub given_without : List Value → List Object → List (Value × Value) → Result Data Fault
given_without keys objects pairs = answer_of (map_given (λ value. node_at 99 objects (AValue value)) (without keys pairs) 999999)
