-- What a line of a job is told: what the pipeline makes of its document, by what its scripts mean.
use Rattle.std.specs.Prelude.{◌≡◌, ℕ, Result, Ok, Err, if◌then◌else◌}
use Rattle.serde_json.specs.Data.{Data}
use Rattle.outer_io.specs.Lines.{InputLine, Within, Beyond, Nothing}
use Rattle.json_bridge.specs.Starts.{Start, Fault}
use Rattle.job_file.specs.Values.{has_whole_numbers}
use Rattle.job_replies.specs.declared.line_fault.LineFault.TheVariants as fault
use Rattle.job_replies.specs.Refusals.{line_error}
use Rattle.line_run.specs.Replies.{Reply, no_reply}
use Rattle.document_replies.specs.Changes.{ctx_in}
use Rattle.document_replies.specs.Replies.{Ended, as_line, as_line_after, fault_of, is_blank}
use Rattle.ingest_pipe.specs.Documents.{DocData}
use Rattle.ingest_pipe.specs.declared.processors.Processors.{Processors}
use Rattle.ingest_pipe.specs.Running.{Meaning, Ran, piped, paid}
use Rattle.write_ctx.specs.Replies.{reply_of}
use Rattle.write_ctx.specs.declared.keys.WriteKind.{WriteKind}
use Rattle.pipe_job.specs.Documents.{doc_in, edited_by, end_reply, judged_by}

-- ---- scripts

-- what a script answers over a document: its reply, and how many instructions it ran
pub record Answer : Type 0 where
  pub reply : Data
  pub steps : ℕ

-- a document that is no line, which none is that a pipeline makes, would be told as such a line
abbrev pub wrong_answer : Fault → Answer
wrong_answer wrong = record { reply = line_error (fault_of wrong); steps = 0 }

abbrev pub answer_of : WriteKind → Start → Ended → Answer
answer_of kind start ran = record { reply = reply_of kind (ctx_in start.args) ran.end ran.objects; steps = ran.steps }

-- the answer to what a document is bound to, where runs end so
abbrev pub IsAnswerTo : WriteKind → (Start → Ended → Type 0) → Result Start Fault → Answer → Type 0
IsAnswerTo kind Ends (Err wrong) answer = answer ≡ wrong_answer wrong
IsAnswerTo kind Ends (Ok start) answer = (ran : Ended) × Ends start ran × (answer ≡ answer_of kind start ran)

-- what scripts mean that answer so
abbrev pub meaning_of : (ℕ → DocData → Answer) → Meaning
meaning_of answer = record {
  tested = λ script doc. judged_by (answer script doc).reply;
  changed = λ script doc. edited_by (answer script doc).reply;
  cost = λ script doc. (answer script doc).steps;
}

-- ---- lines

-- A reply with another number than a whole one of 64 bits with a sign, which no document comes to, would be told as a line with one.
abbrev pub whole_reply : Data → Data
whole_reply d = if has_whole_numbers d then d else line_error fault.Number

-- the reply to a document, behind the instructions of all scripts that were called
abbrev pub reply_to_ran : Meaning → Ran → Reply
reply_to_ran m ran = as_line_after (paid m.cost ran.calls 0) (whole_reply (end_reply ran.made))

abbrev pub reply_to_doc : Meaning → Processors → Result DocData Fault → Reply
reply_to_doc m processors (Ok doc) = reply_to_ran m (piped m.tested m.changed processors doc)
reply_to_doc m processors (Err wrong) = as_line (line_error (fault_of wrong))

-- The reply to a line, by what the scripts mean. It depends on nothing else: not on the lines before.
abbrev pub reply_to : Meaning → Processors → InputLine → Reply
reply_to m processors (Within line) = if is_blank line then no_reply else reply_to_doc m processors (doc_in line)
reply_to m processors Beyond = as_line (line_error fault.Long)
reply_to m processors Nothing = no_reply
