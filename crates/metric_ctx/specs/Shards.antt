-- What a shard comes to: the runs of its scripts, one behind the other over one store.
use Rattle.std.specs.Prelude.{ℕ, ◌+◌, ◌-◌, ◌^◌, ◌==◌, Bool, true, false, min, List, [], ◌∷◌, map, Option, Some, None, if◌then◌else◌}
use Rattle.serde_json.specs.Data.{Data}
use Rattle.object_values.specs.declared.value.Value.{Value}
use Rattle.object_values.specs.declared.value.Value.TheVariants as v
use Rattle.object_values.specs.declared.object.Object.{Object}
use Rattle.object_values.specs.declared.object.Object.TheVariants as o
use Rattle.object_values.specs.declared.object.Guard.TheVariants as g
use Rattle.object_heap.specs.Objects.{retired}
use Rattle.object_heap.specs.Store.{Store}
use Rattle.object_heap.specs.declared.outcome.End.{End}
use Rattle.object_heap.specs.declared.outcome.End.TheVariants as end
use Rattle.object_heap.specs.declared.outcome.Outcome.{Outcome}
use Rattle.pl_types.specs.declared.classes.TheConstants.{HASH_MAP}
use Rattle.job_file.specs.declared.mapping.FieldKind.{FieldKind}
use Rattle.json_bridge.specs.Binding.{Bound, bound}
use Rattle.search_ctx.specs.declared.values.FieldValues.{FieldValues}
use Rattle.search_ctx.specs.Placing.{doc_placed}
use Rattle.metric_ctx.specs.declared.phase.Phase.{Phase}
use Rattle.metric_ctx.specs.declared.phase.Phase.TheVariants as p
use Rattle.metric_ctx.specs.Scripts.{Came, Comes, arguments, map_arguments}

-- the doc values of a line
abbrev pub Doc : Type 0
Doc = List FieldValues

-- what all runs of a shard stand on: the fields of the mapping, the number of the object that the params are, and the room of each run
pub record Ground : Type 0 where
  pub fields : List (List ℕ × FieldKind)
  pub params : ℕ
  pub room : ℕ

abbrev pub ground : List (List ℕ × FieldKind) → ℕ → ℕ → Ground
ground fields params room = record { fields = fields; params = params; room = room }

-- ---- between two runs

-- all the room is there anew, and the lambdas of the script that has ended are gone
abbrev pub refilled : ℕ → Store → Store
refilled room store = record { objects = map retired store.objects; room = room }

-- the store with the document of a line
abbrev pub with_doc : Ground → Doc → Store → Store
with_doc on doc store = record { objects = (doc_placed store.objects on.fields doc).objects; room = store.room }

abbrev pub doc_arguments : Ground → Doc → Store → List Value
doc_arguments on doc store = map_arguments on.params (doc_placed store.objects on.fields doc).value

-- ---- one run behind the other

-- Instructions are counted as far as 64 bits count them.
abbrev pub summed : ℕ → ℕ → ℕ
summed steps more = min (steps + more) (2 ^ 64 - 1)

-- a shard leaves what its last run leaves, with the instructions of all its runs
abbrev pub with_steps : ℕ → Outcome → Outcome
with_steps steps o = record o { steps = summed steps o.steps }

-- no run is left
abbrev pub none_left : Option Outcome → Came
none_left left = record { count = 0; left = left }

-- a run, and what comes of what it leaves
abbrev pub joined : Came → (Option Outcome → Came) → Came
joined run behind = record { count = run.count + (behind run.left).count; left = (behind run.left).left }

-- behind the last script nothing is run
abbrev pub at_last : ℕ → Option Outcome → Came
at_last steps None = none_left None
at_last steps (Some o) = none_left (Some (with_steps steps o))

abbrev pub is_value : End → Bool
is_value (end.Value value) = true
is_value (end.Thrown id place) = false
is_value (end.Limit limit place) = false

-- behind another script the next one is run over the store that it leaves, unless it ended with an error
abbrev pub behind_end : (ℕ → Store → Came) → ℕ → Outcome → End → Came
behind_end next steps o (end.Value value) = next (summed steps o.steps) o.heap
behind_end next steps o (end.Thrown id place) = none_left (Some (with_steps steps o))
behind_end next steps o (end.Limit limit place) = none_left (Some (with_steps steps o))

abbrev pub behind : (ℕ → Store → Came) → ℕ → Option Outcome → Came
behind next steps None = none_left None
behind next steps (Some o) = behind_end next steps o o.end

-- `map` over each of these documents, and then `combine`, behind so many instructions
abbrev pub from_docs : Comes → Ground → List Doc → ℕ → Store → Came
from_docs comes on [] steps store = joined (comes p.Combine (refilled on.room store) (arguments on.params)) (at_last steps)
from_docs comes on (doc ∷ docs) steps store =
    joined (comes p.Map (with_doc on doc (refilled on.room store)) (doc_arguments on doc (refilled on.room store))) (behind (from_docs comes on docs) steps)

-- what comes behind a run of each script
abbrev pub behind_phase : Comes → Ground → List Doc → ℕ → Phase → Option Outcome → Came
behind_phase comes on docs steps p.Init = behind (from_docs comes on docs) steps
behind_phase comes on docs steps p.Map = behind (from_docs comes on docs) steps
behind_phase comes on docs steps p.Combine = at_last steps

-- ---- a whole shard

-- the state of a shard is an empty map at first
abbrev pub state_object : Object
state_object = o.Map HASH_MAP [] g.Open 0

-- the params, which nothing may change, stand behind the state
abbrev pub with_params : Data → Bound
with_params params = bound true (state_object ∷ []) params

-- the number of the object that a value is
abbrev pub id_of : Value → ℕ
id_of (v.Ref id) = id
id_of value = 0

abbrev pub ground_of : List (List ℕ × FieldKind) → Data → ℕ → Ground
ground_of fields params room = ground fields (id_of (with_params params).value) room

abbrev pub first_store : Data → ℕ → Store
first_store params room = record { objects = (with_params params).objects; room = room }

-- `init`, and what comes behind it
abbrev pub shard_on : Comes → Ground → List Doc → Store → Came
shard_on comes on docs store = joined (comes p.Init store (arguments on.params)) (behind (from_docs comes on docs) 0)

-- what a shard comes to over the documents of its lines
abbrev pub shard : Comes → List (List ℕ × FieldKind) → Data → ℕ → List Doc → Came
shard comes fields params room docs = shard_on comes (ground_of fields params room) docs (first_store params room)

-- ---- the lines of a shard

-- the documents of those lines that are of a shard, in their order
abbrev pub docs_of : ℕ → List (ℕ × Doc) → List Doc
docs_of number [] = []
docs_of number (line ∷ lines) = if line.0 == number then line.1 ∷ docs_of number lines else docs_of number lines

-- what the shard of a number comes to over all lines of an input
abbrev pub part : Comes → List (List ℕ × FieldKind) → Data → ℕ → ℕ → List (ℕ × Doc) → Came
part comes fields params room number lines = shard comes fields params room (docs_of number lines)
