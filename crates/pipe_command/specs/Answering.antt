-- What the scripts of a pipeline answer over a document: what their runs leave, beside these codes.
use Rattle.std.specs.Prelude.{◌≡◌, ℕ, zero, suc, List, [], ◌∷◌, if◌then◌else◌}
use Rattle.job_commands.specs.Codes.{ScriptCodes}
use Rattle.document_replies.specs.Starts.{field}
use Rattle.document_replies.specs.write_ctx_declared.keys.WriteKind.{WriteKind}
use Rattle.document_replies.specs.write_ctx_declared.keys.WriteKind.TheVariants as w
use Rattle.write_ctx.specs.Lines.{bound_document}
use Rattle.job_loading.specs.Loading.{JobUnder}
use Rattle.pipe_job.specs.PipeDocuments.{DocData}
use Rattle.pipe_job.specs.Documents.{line_of_doc}
use Rattle.pipe_job.specs.Replies.{Answer, IsAnswerTo, wrong_answer}
use Rattle.pipe_job.specs.ingest_pipe_declared.scripts.PipeScript.{PipeScript}
use Rattle.job_commands.specs.Contexts.{is_test}
use Rattle.job_commands.specs.Running.{EndsBeside}
use Rattle.job_commands.specs.Scripts.{JobProgram, Prepared}
use Rattle.pipe_command.specs.Pipelines.{Piped}

-- what a script does with a document, by its path
abbrev pub kind_of : List ℕ → WriteKind
kind_of path = if is_test path then w.Test else w.Ingest

-- a job that has a program alone
abbrev pub alone : JobUnder → JobProgram → Prepared
alone under program = record { under = under; programs = record { first = program; more = [] } }

-- the answer of a script, which has this program and these codes
abbrev pub AnswersBy : JobUnder → PipeScript → JobProgram → ScriptCodes → DocData → Answer → Type 0
AnswersBy under script program codes doc answer =
    IsAnswerTo (kind_of script.path) (EndsBeside (alone under program) codes) (bound_document (kind_of script.path) script.params under.job.limits.room (line_of_doc doc)) answer

-- the answer of the script of a place; one that is not there, which no processor names, answers as a wrong line does
abbrev pub AnswersIn : JobUnder → List PipeScript → List JobProgram → List ScriptCodes → ℕ → DocData → Answer → Type 0
AnswersIn under [] programs codes place doc answer = answer ≡ wrong_answer field
AnswersIn under (script ∷ scripts) [] codes place doc answer = answer ≡ wrong_answer field
AnswersIn under (script ∷ scripts) (program ∷ programs) [] place doc answer = answer ≡ wrong_answer field
AnswersIn under (script ∷ scripts) (program ∷ programs) (one ∷ codes) zero doc answer = AnswersBy under script program one doc answer
AnswersIn under (script ∷ scripts) (program ∷ programs) (one ∷ codes) (suc place) doc answer = AnswersIn under scripts programs codes place doc answer

-- each script answers each document so
abbrev pub AllAnswer : Piped → List ScriptCodes → (ℕ → DocData → Answer) → Type 0
AllAnswer p codes answers = (place : ℕ) (doc : DocData) → AnswersIn p.of.under p.of.pipeline.scripts p.programs codes place doc (answers place doc)
