-- A job of the code as what it says of its lines, and the runs of its script.
use Rattle.std.specs.Prelude.{◌≡◌, ℕ, List, Result, Ok, Err}
use Rattle.serde_json.specs.Data.{Data}
use Rattle.object_values.specs.declared.value.Value.{Value}
use Rattle.object_heap.specs.Store.{Store}
use Rattle.object_heap.specs.declared.outcome.Outcome.{Outcome}
use Rattle.json_bridge.specs.Starts.{Start, Fault, Answered, start_view}
use Rattle.json_bridge.specs.declared.error.BindErr.{BindErr}
use Rattle.json_replies.specs.declared.showing.ShownKeys.{ShownKeys}
use Rattle.document_replies.specs.declared.context.BoundLine.{BoundLine}
use Rattle.document_replies.specs.Replies.{Context, Ended}

-- a context by its parts
abbrev pub context_of : (List ℕ → Result Start Fault) → (Start → Ended → Data) → ShownKeys → Context
context_of start reply keys = record { start = start; reply = reply; keys = keys }

-- the runs of a script by their starts
abbrev pub by_start : (Store → List Value → Ended → Type 0) → Start → Ended → Type 0
by_start Ends start = Ends start.store start.args

abbrev pub ended_of : Outcome → Ended
ended_of o = record { end = o.end; objects = o.heap.objects; reached = o.reached; steps = o.steps }

-- The answer of binding is what the definition says, and so is kept of the start what a reply needs. Want of memory is free.
abbrev pub Binds : {K : Type 0} → (Start → K → Type 0) → Result (BoundLine K) BindErr → Result Start Fault → Type 0
Binds keeps (Ok line) meaning = (meaning ≡ Ok (start_view line.bound)) × keeps (start_view line.bound) line.kept
Binds keeps (Err error) meaning = Answered (Err error) meaning

-- so may the arguments of every start be
abbrev pub TakesStarts : (List ℕ → Result Start Fault) → (List Value → Type 0) → Type 0
TakesStarts start takes = (line : List ℕ) (begun : Start) → start line ≡ Ok begun → takes begun.args
