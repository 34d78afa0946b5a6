-- The lines of a job of the code, in its context, as what they are.
use Rattle.std.specs.Prelude.{◌≡◌, ℕ, List, Result, Ok, Err}
use Rattle.serde_json.specs.Data.{Data}
use Rattle.serde_json.specs.View.{view}
use Rattle.object_values.specs.declared.value.Value.{Value}
use Rattle.json_bridge.specs.Starts.{Start, Fault}
use Rattle.json_bridge.specs.declared.error.BindErr.{BindErr}
use Rattle.json_bridge.specs.declared.start.Bound.{Bound}
use Rattle.json_replies.specs.declared.showing.ShownKeys.{ShownKeys}
use Rattle.document_replies.specs.declared.context.BoundLine.{BoundLine}
use Rattle.document_replies.specs.declared.change.ChangeContext.{ChangeContext}
use Rattle.document_replies.specs.declared.lines.JobLines.{JobLines}
use Rattle.document_replies.specs.declared.lines.JobLines.TheVariants as l
use Rattle.document_replies.specs.Changes.{Changes, change_reply, change_start, ctx_in}
use Rattle.document_replies.specs.Jobs.{context_of}
use Rattle.document_replies.specs.Replies.{Context, Ended}
use Rattle.document_replies.specs.Searches.{documents_of, reply_of, start_of}

-- the changes of a context of the code
abbrev pub changes_of : ChangeContext → Changes
changes_of context = record { kind = context.kind; params = view context.params.json; room = context.room }

-- the value of `ctx` is kept of a start
abbrev pub KeepsCtx : Start → Value → Type 0
KeepsCtx start ctx = ctx ≡ ctx_in start.args

abbrev pub start_in : JobLines → List ℕ → Result Start Fault
start_in (l.Search context) = start_of (documents_of context)
start_in (l.Change context) = change_start (changes_of context)

abbrev pub answer_in : JobLines → Start → Ended → Data
answer_in (l.Search context) = reply_of (documents_of context)
answer_in (l.Change context) = change_reply (changes_of context)

-- of a start of a search nothing is kept
abbrev pub Keeps : JobLines → Start → Value → Type 0
Keeps (l.Search context) = λ start kept. Unit {0}
Keeps (l.Change context) = KeepsCtx

-- a line that is bound, without what is kept of it
abbrev pub only_bound : {K : Type 0} → Result (BoundLine K) BindErr → Result Bound BindErr
only_bound (Ok line) = Ok line.bound
only_bound (Err error) = Err error

-- with what is shown beside replies
abbrev pub lines_seen : ShownKeys → JobLines → Context
lines_seen keys lines = context_of (start_in lines) (answer_in lines) keys
