-- What a run over a document comes to: a whole number, or none, and how many instructions were run.
use Rattle.std.specs.Prelude.{◌≡◌, ℕ, ℤ, List, [], ◌∷◌, Option, Some, None, Result, Ok, Err}
use Rattle.script_engine.specs.Codes.{ScriptCodes}
use Rattle.object_values.specs.declared.value.Value.{Value}
use Rattle.object_values.specs.declared.value.Value.TheVariants as v
use Rattle.object_heap.specs.declared.outcome.End.{End}
use Rattle.object_heap.specs.declared.outcome.End.TheVariants as e
use Rattle.search_ctx.specs.declared.line.SearchKind.TheVariants as k
use Rattle.document_replies.specs.Starts.{Start, Fault}
use Rattle.search_ctx.specs.Lines.{bound_document}
use Rattle.document_replies.specs.Replies.{Ended}
use Rattle.document_replies.specs.Searches.{Documents}
use Rattle.job_commands.specs.Contexts.{documents_in}
use Rattle.job_commands.specs.Running.{EndsOver}
use Rattle.job_commands.specs.Scripts.{Prepared}
use Rattle.job_commands.specs.declared.answer.Answer.{Answer}
use Rattle.job_commands.specs.Generator.{document_of}

-- the whole number that a value is
abbrev pub whole_of : Value → Option ℤ
whole_of (v.Int number) = Some number
whole_of (v.Long number) = Some number
whole_of other = None

-- a run that gives no whole number, by an error or a limit or as it may, counts as an error
abbrev pub given_by : End → Option ℤ
given_by (e.Value value) = whole_of value
given_by (e.Thrown id place) = None
given_by (e.Limit limit place) = None

abbrev pub answer_of : Ended → Answer
answer_of ran = record { value = given_by ran.end; steps = ran.steps }

-- a document over which no run starts
abbrev pub no_answer : Answer
no_answer = record { value = None; steps = 0 }

-- the answer to what a document is bound to, where runs end so
abbrev pub IsAnswerTo : (Start → Ended → Type 0) → Result Start Fault → Answer → Type 0
IsAnswerTo Ends (Err wrong) answer = answer ≡ no_answer
IsAnswerTo Ends (Ok start) answer = (ran : Ended) × Ends start ran × (answer ≡ answer_of ran)

-- with what the run over the document of a number starts
abbrev pub start_over : Documents → ℕ → Result Start Fault
start_over documents x = bound_document documents.kind documents.fields documents.params documents.room (document_of x)

abbrev pub IsAnswer : Documents → (Start → Ended → Type 0) → ℕ → Answer → Type 0
IsAnswer documents Ends x = IsAnswerTo Ends (start_over documents x)

-- each number has its answer, in order
abbrev pub AreAnswers : (ℕ → Answer → Type 0) → List ℕ → List Answer → Type 0
AreAnswers Is [] [] = Unit {0}
AreAnswers Is (x ∷ xs) (answer ∷ answers) = Is x answer × AreAnswers Is xs answers
AreAnswers Is [] (answer ∷ answers) = ⊥
AreAnswers Is (x ∷ xs) [] = ⊥

-- the answer of the job's program and of its codes
abbrev pub IsAnswerOf : Prepared → List ScriptCodes → ℕ → Answer → Type 0
IsAnswerOf p codes = IsAnswer (documents_in k.Field p.under.job) (EndsOver p codes)
