-- What the scripts of a job of the code answer.
use Rattle.std.specs.Prelude.{◌≡◌, ℕ, List, Option, Some, None, Result, Ok, slice_get}
use Rattle.serde_json.specs.View.{view}
use Rattle.object_values.specs.declared.value.Value.{Value}
use Rattle.object_heap.specs.Store.{Store}
use Rattle.json_bridge.specs.Starts.{Start, Fault, field}
use Rattle.document_replies.specs.Jobs.{by_start}
use Rattle.document_replies.specs.Replies.{Ended}
use Rattle.ingest_pipe.specs.Documents.{DocData}
use Rattle.ingest_pipe.specs.Running.{Meaning}
use Rattle.write_ctx.specs.Lines.{bound_document}
use Rattle.pipe_job.specs.declared.answers.PipeAnswer.{PipeAnswer}
use Rattle.pipe_job.specs.declared.answers.PipedScript.{PipedScript}
use Rattle.pipe_job.specs.Documents.{edited_by, judged_by, line_of_doc}
use Rattle.pipe_job.specs.Replies.{Answer, IsAnswerTo, wrong_answer}

abbrev pub answer_view : PipeAnswer → Answer
answer_view a = record { reply = view a.reply; steps = a.steps }

-- with what the run of a script over a document starts
abbrev pub start_for : {D : Type 0} → PipedScript D → ℕ → DocData → Result Start Fault
start_for s room doc = bound_document s.kind (view s.params.json) room (line_of_doc doc)

-- how runs of a script end
abbrev pub EndsOf : Type 0 → Type 1
EndsOf D = D → Store → List Value → Ended → Type 0

abbrev pub Answers : {D : Type 0} → EndsOf D → PipedScript D → ℕ → DocData → Answer → Type 0
Answers Ends s room doc answer = IsAnswerTo s.kind (by_start (Ends s.script)) (start_for s room doc) answer

-- a script that is not there answers as a wrong line does
abbrev pub AnswersIn : {D : Type 0} → EndsOf D → Option (PipedScript D) → ℕ → DocData → Answer → Type 0
AnswersIn Ends None room doc answer = answer ≡ wrong_answer field
AnswersIn Ends (Some s) room doc answer = Answers Ends s room doc answer

-- the script of a place answers so
abbrev pub AnswersAt : {D : Type 0} → EndsOf D → List (PipedScript D) → ℕ → ℕ → DocData → Answer → Type 0
AnswersAt Ends scripts room script doc answer = AnswersIn Ends (slice_get scripts script) room doc answer

-- the scripts mean this: whatever one may answer is what it means
pub record Mean {D : Type 0} (Ends : EndsOf D) (scripts : List (PipedScript D)) (room : ℕ) (m : Meaning) : Type 0 where
  pub tested : (script : ℕ) (doc : DocData) (answer : Answer) → AnswersAt Ends scripts room script doc answer → m.tested script doc ≡ judged_by answer.reply
  pub changed : (script : ℕ) (doc : DocData) (answer : Answer) → AnswersAt Ends scripts room script doc answer → m.changed script doc ≡ edited_by answer.reply
  pub cost : (script : ℕ) (doc : DocData) (answer : Answer) → AnswersAt Ends scripts room script doc answer → m.cost script doc ≡ answer.steps

-- a script takes the arguments of every start
abbrev pub TakesStarts : {D : Type 0} → (D → List Value → Type 0) → PipedScript D → ℕ → Type 0
TakesStarts takes s room = (doc : DocData) (start : Start) → start_for s room doc ≡ Ok start → takes s.script start.args

abbrev pub TakesIn : {D : Type 0} → (D → List Value → Type 0) → Option (PipedScript D) → ℕ → Type 0
TakesIn takes None room = Unit {0}
TakesIn takes (Some s) room = TakesStarts takes s room

-- .. and so does each
abbrev pub TakeAll : {D : Type 0} → (D → List Value → Type 0) → List (PipedScript D) → ℕ → Type 0
TakeAll takes scripts room = (script : ℕ) → TakesIn takes (slice_get scripts script) room
