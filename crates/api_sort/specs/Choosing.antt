-- The greatest and the least element of a collection in natural order; of equal ones the first.
use Rattle.std.specs.Prelude.{ℕ, ◌==◌, Bool, Option, Some, None, List, [], ◌∷◌, codes, drop, length, slice_get, if◌then◌else◌}
use Rattle.object_values.specs.declared.object.Object.{Object}
use Rattle.object_values.specs.declared.object.Object.TheVariants as o
use Rattle.object_values.specs.declared.value.Value.{Value}
use Rattle.container_outcomes.specs.declared.outcome.Outcome.{Outcome}
use Rattle.container_outcomes.specs.declared.outcome.Outcome.TheVariants.{Gives, New}
use Rattle.container_outcomes.specs.declared.outcome.Raised.TheVariants as raised
use Rattle.container_outcomes.specs.Outcomes.{fails, says}
use Rattle.container_parts.specs.declared.containers.Container.{Container}
use Rattle.container_values.specs.Elements.{entry_keys_of, map_shown, values_of}
use Rattle.api_sort.specs.declared.choosing.Extreme.{Extreme}
use Rattle.api_sort.specs.declared.choosing.Extreme.TheVariants.{Greatest, Least}
use Rattle.api_sort.specs.Ordering.{before, or_refused, refusal}

-- whether a value takes the place of the best so far
abbrev pub beats : Extreme → Value → Value → Bool
beats Greatest value best = before best value
beats Least value best = before value best

abbrev pub best_of : Extreme → Value → List Value → Value
best_of which best [] = best
best_of which best (value ∷ values) = best_of which (if beats which value best then value else best) values

abbrev pub no_element : Outcome
no_element = fails raised.NoSuchElement

abbrev pub chosen : Extreme → List Object → List Value → Option Value → Outcome
chosen which objects values None = no_element
chosen which objects values (Some first) = or_refused (refusal objects values) (Gives (best_of which first (drop 1 values)))

-- A single entry is the greatest and the least, and is made; several are not compared
abbrev pub entry_given : ℕ → Option Value → Outcome
entry_given map None = no_element
entry_given map (Some key) = New (o.Entry map key)

abbrev pub entries_unordered : Outcome
entries_unordered = says raised.ClassCast (codes "Cannot compare [Map$Entry] and [Map$Entry]")

abbrev pub extreme_of : Extreme → List Object → Container → Outcome
extreme_of which objects container =
    if length (entry_keys_of objects container) == 0 then chosen which objects (values_of objects container) (slice_get (values_of objects container) 0)
    else (if length (entry_keys_of objects container) == 1 then entry_given (map_shown container) (slice_get (entry_keys_of objects container) 0)
    else entries_unordered)
