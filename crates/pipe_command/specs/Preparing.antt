-- What the code prepares as what is meant, and how it replies to the lines of a job.
use Rattle.std.specs.Prelude.{◌≡◌, ℕ, List, [], ◌∷◌, Option, Result, Ok, Err, IfSome}
use Rattle.serde_json.specs.View.{view}
use Rattle.object_heap.specs.Store.{Store}
use Rattle.object_values.specs.declared.value.Value.{Value}
use Rattle.outer_io.specs.Lines.{InputLine}
use Rattle.job_commands.specs.Codes.{ScriptCodes, script_codes}
use Rattle.job_commands.specs.machine_declared.configuration.Limits.{Limits}
use Rattle.command_parts.specs.declared.report.Report.{Report}
use Rattle.command_parts.specs.declared.stop.Stop.{Stop}
use Rattle.command_parts.specs.Stops.{stop_told}
use Rattle.command_parts.specs.Told.{Told}
use Rattle.document_replies.specs.LineRunReplies.{Reply, stateless}
use Rattle.document_replies.specs.Passing.{Passes}
use Rattle.document_replies.specs.Replies.{Ended}
use Rattle.job_loading.specs.Seen.{read_view}
use Rattle.pipe_job.specs.Code.{Mean, TakeAll}
use Rattle.pipe_job.specs.Replies.{reply_to}
use Rattle.pipe_job.specs.Running.{Meaning}
use Rattle.pipe_job.specs.declared.answers.PipedScript.{PipedScript}
use Rattle.pipe_job.specs.ingest_pipe_declared.scripts.PipeScript.{PipeScript}
use Rattle.job_commands.specs.Documents.{Lists, ran_by}
use Rattle.job_commands.specs.Listing.{listings_of}
use Rattle.job_commands.specs.Preparing.{EndsAsItsProgram, IsScriptFor, RefusesScripts, TakesThem}
use Rattle.job_commands.specs.Scripts.{ArePrograms, JobProgram}
use Rattle.job_commands.specs.declared.script.LimitedScript.{LimitedScript}
use Rattle.pipe_command.specs.Answering.{kind_of}
use Rattle.pipe_command.specs.Pipelines.{PipeUnder, Piped, texts_of}
use Rattle.pipe_command.specs.Telling.{front_of}
use Rattle.pipe_command.specs.declared.preparing.PreparedPipe.{PreparedPipe}
use Rattle.pipe_command.specs.declared.reading.ReadPipe.{ReadPipe}

-- ---- the job that was read

abbrev pub pipe_view : ReadPipe → PipeUnder
pipe_view read = record { under = read_view read.found; pipeline = read.pipeline }

abbrev pub limits_of : ReadPipe → Limits
limits_of read = record { loops = read.found.job.limits.loops; depth = read.found.job.limits.depth; ticks = read.found.job.limits.ticks }

-- ---- its scripts

-- a script of the code for one of the pipeline, which has a program
pub record IsPiped (read : ReadPipe) (script : PipeScript) (program : JobProgram) (x : PipedScript LimitedScript) : Type 0 where
  pub stands : IsScriptFor (read_view read.found) program x.script.script
  pub key : program.key ≡ script.path
  pub limits : x.script.limits ≡ limits_of read
  pub kind : x.kind ≡ kind_of script.path
  pub params : view x.params.json ≡ script.params

-- one for each, in order
abbrev pub ArePiped : ReadPipe → List PipeScript → List JobProgram → List (PipedScript LimitedScript) → Type 0
ArePiped read [] [] [] = Unit {0}
ArePiped read [] [] (x ∷ xs) = ⊥
ArePiped read [] (program ∷ programs) xs = ⊥
ArePiped read (script ∷ scripts) [] xs = ⊥
ArePiped read (script ∷ scripts) (program ∷ programs) [] = ⊥
ArePiped read (script ∷ scripts) (program ∷ programs) (x ∷ xs) = IsPiped read script program x × ArePiped read scripts programs xs

-- the scripts of the programs of a pipeline, or what is told of the first that is refused
abbrev pub CompilesPipe : ReadPipe → List PipeScript → Result (List (PipedScript LimitedScript)) Stop → Type 0
CompilesPipe read scripts (Ok xs) = (programs : List JobProgram) × ArePrograms (read_view read.found) (texts_of scripts) (Ok programs) × ArePiped read scripts programs xs
CompilesPipe read scripts (Err stop) = RefusesScripts (read_view read.found) (texts_of scripts) stop

-- ---- the job

abbrev pub with_programs : PreparedPipe → List JobProgram → Piped
with_programs job programs = record { of = pipe_view job.read; programs = programs }

abbrev pub AreJobScripts : PreparedPipe → List JobProgram → Type 0
AreJobScripts job programs = ArePiped job.read job.read.pipeline.scripts programs job.scripts.items

-- the job is prepared with the programs of which it has the scripts, or something is told
abbrev pub PreparesSo : (Result Piped Told → Type 0) → Result PreparedPipe Stop → Type 0
PreparesSo prepares (Ok job) = (programs : List JobProgram) × prepares (Ok (with_programs job programs)) × AreJobScripts job programs
PreparesSo prepares (Err stop) = IfSome (stop_told stop) (λ told. prepares (Err told))

-- its scripts take the arguments of every start
abbrev pub IsReady : PreparedPipe → Type 0
IsReady job = TakeAll (λ (s : LimitedScript) (args : List Value). TakesThem s args) job.scripts.items job.read.found.job.limits.room

abbrev pub codes_of : List (PipedScript LimitedScript) → List ScriptCodes
codes_of [] = []
codes_of (x ∷ xs) = script_codes x.script.script ∷ codes_of xs

-- ---- its replies

-- whatever its scripts mean, a line has the reply of that meaning
abbrev pub GivesReplies : PreparedPipe → InputLine → Reply → Type 0
GivesReplies job line reply =
    (m : Meaning) → Mean (λ (s : LimitedScript) (store : Store) (args : List Value) (ran : Ended). EndsAsItsProgram s store args ran) job.scripts.items job.read.found.job.limits.room m
    → reply ≡ reply_to m job.read.pipeline.processors line

-- how the run of a job that is prepared ends
abbrev pub EndsPiped : PreparedPipe → Report → Option (List ℕ) → Option (List ℕ) → Option (List ℕ) → Option (List ℕ) → Type 0
EndsPiped job r left left' old new =
    Lists (listings_of (codes_of job.scripts.items)) r
    × Passes (stateless (GivesReplies job)) (front_of (codes_of job.scripts.items)) job.read.found.job.limits.input (ran_by r) left left' old new
