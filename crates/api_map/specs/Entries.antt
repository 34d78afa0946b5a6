-- The members of Map.Entry: a key, and the value that the map has under it now.
use Rattle.std.specs.Prelude.{ℕ, List, codes, slice_get, if◌then◌else◌}
use Rattle.object_values.specs.declared.object.Object.{Object}
use Rattle.object_values.specs.declared.value.Value.{Value}
use Rattle.object_heap.specs.Parts.{guard_of}
use Rattle.value_walks.specs.Equality.{value_now}
use Rattle.container_outcomes.specs.declared.outcome.Raised.TheVariants as raised
use Rattle.container_outcomes.specs.declared.outcome.Outcome.{Outcome}
use Rattle.container_outcomes.specs.declared.outcome.Outcome.TheVariants.{Gives, Puts}
use Rattle.api_map.specs.Arguments.{entry_at}
use Rattle.container_outcomes.specs.Choices.{with_one, with_two}
use Rattle.api_map.specs.Guards.{may_put}
use Rattle.container_outcomes.specs.Outcomes.{has_key, says, unsupported}

abbrev pub key_given : ℕ × Value → Outcome
key_given entry = Gives entry.1

-- null where the key is gone
abbrev pub value_given : List Object → ℕ × Value → Outcome
value_given objects entry = Gives (value_now objects entry.0 entry.1)

abbrev pub gone : Outcome
gone = says raised.IllegalState (codes "entry is gone")

abbrev pub value_set : List Object → ℕ × Value → Value → Outcome
value_set objects entry value =
    if may_put (guard_of objects entry.0) entry.1
    then (if has_key objects entry.0 entry.1 then Puts entry.0 entry.1 value else gone)
    else unsupported

abbrev pub get_key : List Object → List Value → Outcome
get_key objects arguments = with_one key_given (entry_at objects arguments 0)

abbrev pub get_value : List Object → List Value → Outcome
get_value objects arguments = with_one (value_given objects) (entry_at objects arguments 0)

abbrev pub set_value : List Object → List Value → Outcome
set_value objects arguments = with_two (value_set objects) (entry_at objects arguments 0) (slice_get arguments 1)
