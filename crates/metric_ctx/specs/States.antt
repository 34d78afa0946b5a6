-- The states of shards, from what the shards come to, and with what `reduce` starts over them.
use Rattle.std.specs.Prelude.{◌≡◌, ℕ, ◌+◌, ◌&&◌, true, false, List, [], ◌∷◌, Option, Some, None, Result, Ok, Err, Vec, map, if◌then◌else◌}
use Rattle.std.specs.declared.alloc.Global.{Global}
use Rattle.serde_json.specs.Data.{Data, array}
use Rattle.serde_json.specs.View.{view, items_of}
use Rattle.serde_json.specs.declared.value.Value.{Value as Json}
use Rattle.object_values.specs.declared.object.Object.{Object}
use Rattle.object_heap.specs.declared.outcome.End.{End}
use Rattle.object_heap.specs.declared.outcome.End.TheVariants as end
use Rattle.object_heap.specs.declared.outcome.Outcome.{Outcome}
use Rattle.job_file.specs.Values.{has_whole_numbers}
use Rattle.json_bridge.specs.Binding.{Bound, bound}
use Rattle.json_bridge.specs.Giving.{Fault as GiveFault, given_of}
use Rattle.json_bridge.specs.Starts.{Start, Fault, number_outside}
use Rattle.metric_ctx.specs.declared.states.StateErr.{StateErr}
use Rattle.metric_ctx.specs.declared.states.StateErr.TheVariants as e

-- ---- states

-- what was given, if it was
abbrev pub given : Result Data GiveFault → Option Data
given (Ok d) = Some d
given (Err fault) = None

-- The state of a shard that ended so: the JSON form of its value. A shard that ended with an error has failed, and so has one whose value
-- has no such form.
abbrev pub state_at : List Object → End → Option Data
state_at objects (end.Value value) = given (given_of objects value)
state_at objects (end.Thrown id place) = None
state_at objects (end.Limit limit place) = None

abbrev pub state_of : Outcome → Option Data
state_of o = state_at o.heap.objects o.end

-- a state before those of the shards behind it; a shard without one decides
abbrev pub before : Data → Result (List Data) ℕ → Result (List Data) ℕ
before d (Ok ds) = Ok (d ∷ ds)
before d (Err number) = Err number

abbrev pub state_before : ℕ → Option Data → Result (List Data) ℕ → Result (List Data) ℕ
state_before number None rest = Err number
state_before number (Some d) rest = before d rest

-- the states of shards from one of this number on, or the number of the lowest that has failed
abbrev pub states_from : ℕ → List Outcome → Result (List Data) ℕ
states_from number [] = Ok []
states_from number (o ∷ os) = state_before number (state_of o) (states_from (number + 1) os)

-- The answer is what the definition says. Want of memory is free.
abbrev pub AreStates : Result (Vec Json Global) StateErr → Result (List Data) ℕ → Type 0
AreStates (Ok states) meaning = meaning ≡ Ok (map view states.items)
AreStates (Err (e.Failed number)) meaning = meaning ≡ Err number
AreStates (Err e.NoMemory) meaning = Unit {0}

-- ---- reduce

-- `states` stands first in a store of its own, and may be changed; then `params`, which may not
abbrev pub with_params : Data → Bound → Bound
with_params params states = bound true states.objects params

abbrev pub start_behind : ℕ → Bound → Bound → Start
start_behind room states params = record {
  store = record { objects = params.objects; room = room };
  args = states.value ∷ params.value ∷ [];
}

abbrev pub start_over : Data → ℕ → Bound → Start
start_over params room states = start_behind room states (with_params params states)

-- The start of `reduce` over the states of all shards, which holds no object of a shard; or some number is none of 64 bits with a sign.
abbrev pub reduce_start : Data → ℕ → List Data → Result Start Fault
reduce_start params room states =
    if has_whole_numbers (array (items_of states)) && has_whole_numbers params
    then Ok (start_over params room (bound false [] (array (items_of states))))
    else Err number_outside
