-- Comparing with the value of a key, and the first pair that has a value.
use Rattle.std.specs.Prelude.{ℕ, ◌+◌, Option, Some, None, List, [], ◌∷◌}
use Rattle.object_values.specs.declared.object.Object.{Object}
use Rattle.object_values.specs.declared.value.Value.{Value}
use Rattle.container_outcomes.specs.declared.comparing.Compared.{Compared}
use Rattle.container_outcomes.specs.declared.comparing.Compared.TheVariants as c
use Rattle.container_outcomes.specs.declared.comparing.Found.{Found}
use Rattle.container_outcomes.specs.declared.comparing.Found.TheVariants as f
use Rattle.container_outcomes.specs.Comparing.{comparison, found_by}

-- deep equality of a value and one that may be there
abbrev pub compared_with : List Object → Value → Option Value → Compared
compared_with objects value None = c.Other
compared_with objects value (Some other) = comparison objects value other

-- the first pair, from a place on, whose value is equal to this one; or why the search stopped
abbrev pub first_from : List Object → Value → ℕ → List (Value × Value) → Found
first_from objects value at [] = f.Nowhere
first_from objects value at (pair ∷ pairs) = found_by at (comparison objects value pair.1) (first_from objects value (at + 1) pairs)
