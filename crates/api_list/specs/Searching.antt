-- The first item that is equal to a value, and the last.
use Rattle.std.specs.Prelude.{ℕ, zero, suc, ◌+◌, Option, Some, None, List, [], ◌∷◌, slice_get, if◌then◌else◌}
use Rattle.object_values.specs.declared.object.Object.{Object}
use Rattle.object_values.specs.declared.value.Value.{Value}
use Rattle.object_values.specs.Values.{same_value}
use Rattle.container_outcomes.specs.declared.comparing.Found.{Found}
use Rattle.container_outcomes.specs.declared.comparing.Found.TheVariants as f
use Rattle.container_outcomes.specs.Comparing.{comparison, found_by}

-- the first item, from a place on, that is equal to this value; or why the search stopped
abbrev pub first_from : List Object → Value → ℕ → List Value → Found
first_from objects value at [] = f.Nowhere
first_from objects value at (item ∷ items) = found_by at (comparison objects value item) (first_from objects value (at + 1) items)

-- the first item, from a place on, that is of one kind with this value and has the same content
abbrev pub first_same_from : Value → ℕ → List Value → Found
first_same_from value at [] = f.Nowhere
first_same_from value at (item ∷ items) = if same_value value item then f.At at else first_same_from value (at + 1) items

-- the last item before a place that is equal to this value, searched for from there down
abbrev pub found_at : List Object → Value → ℕ → Option Value → Found → Found
found_at objects value at None rest = rest
found_at objects value at (Some item) rest = found_by at (comparison objects value item) rest

abbrev pub last_before : List Object → Value → List Value → ℕ → Found
last_before objects value items zero = f.Nowhere
last_before objects value items (suc at) = found_at objects value at (slice_get items at) (last_before objects value items at)
