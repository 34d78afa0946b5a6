-- Steps of the loops over the elements of a container.
use Rattle.std.proofs.Common.{◌≡◌, ℕ, ◌+◌, Bool, true, Some, List, drop, slice_get, ap, ◌∙◌, if◌then◌else◌, is_some}
use Rattle.object_values.specs.declared.value.Value.{Value}
use Rattle.number_ops.specs.Operators.{is_null}
use Rattle.number_ops.specs.Order.{natural}
use Rattle.container_outcomes.proofs.Stepping.{got}
use Rattle.api_sort.specs.declared.choosing.Extreme.{Extreme}
use Rattle.api_sort.specs.Choosing.{beats, best_of}
use Rattle.api_sort.specs.Ordering.{first_other, has_null}

pub null_step : (values : List Value) (at : ℕ) (value : Value) (is : Bool) → slice_get values at ≡ Some value → is_null value ≡ is → has_null (drop at values) ≡ (if is then true else has_null (drop (at + 1) values))
null_step values at value is h e = ap has_null (got values at value h) ∙ ap (λ (b : Bool). if b then true else has_null (drop (at + 1) values)) e

pub other_step : (first : Value) (values : List Value) (at : ℕ) (value : Value) (is : Bool) → slice_get values at ≡ Some value → is_some (natural first value) ≡ is
    → first_other first (drop at values) ≡ (if is then first_other first (drop (at + 1) values) else Some value)
other_step first values at value is h e =
    ap (first_other first) (got values at value h) ∙ ap (λ (b : Bool). if b then first_other first (drop (at + 1) values) else Some value) e

pub best_step : (which : Extreme) (values : List Value) (at : ℕ) (best value : Value) → slice_get values at ≡ Some value
    → best_of which best (drop at values) ≡ best_of which (if beats which value best then value else best) (drop (at + 1) values)
best_step which values at best value h = ap (best_of which best) (got values at value h)
