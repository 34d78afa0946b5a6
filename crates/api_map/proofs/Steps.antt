-- Steps of loops over lists.
use Rattle.std.proofs.Common.{◌≡◌, ℕ, ◌+◌, List, Some, drop, slice_get, ap, ◌∙◌}
use Rattle.object_values.specs.declared.object.Object.{Object}
use Rattle.object_values.specs.declared.value.Value.{Value}
use Rattle.value_walks.proofs.Stepping.{got}
use Rattle.container_outcomes.specs.declared.comparing.Compared.{Compared}
use Rattle.container_outcomes.specs.Comparing.{comparison, found_by}
use Rattle.api_map.specs.Searching.{first_from}

pub first_step : (objects : List Object) (value : Value) (pairs : List (Value × Value)) (at : ℕ) (pair : Value × Value) (is : Compared) → slice_get pairs at ≡ Some pair → comparison objects value pair.1 ≡ is
    → first_from objects value at (drop at pairs) ≡ found_by at is (first_from objects value (at + 1) (drop (at + 1) pairs))
first_step objects value pairs at pair is h e =
    ap (λ (rest : List (Value × Value)). first_from objects value at rest) (got pairs at pair h)
    ∙ ap (λ (x : Compared). found_by at x (first_from objects value (at + 1) (drop (at + 1) pairs))) e
