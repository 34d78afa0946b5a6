-- A job over a pipeline, from the content of the files, with the programs of its scripts; or what is told where something is refused. The
-- job's own file comes first, then its pipeline, then its allowlist, then its scripts in the order in which the pipeline's walk meets them.
use Rattle.std.specs.Prelude.{◌≡◌, ℕ, List, [], ◌∷◌, Option, Result, Ok, Err, codes}
use Rattle.serde_json.specs.Data.{Data}
use Rattle.job_file.specs.declared.context.JobContext.{JobContext}
use Rattle.job_file.specs.declared.context.JobContext.TheVariants as c
use Rattle.job_file.specs.declared.context.JobCommand.TheVariants as command
use Rattle.job_file.specs.Jobs.{JobData, field}
use Rattle.command_parts.specs.Files.{file_told}
use Rattle.command_parts.specs.Told.{Told}
use Rattle.job_loading.specs.Asked.{list_asked}
use Rattle.job_loading.specs.Loading.{JobUnder, job_in_file, list_named, refusal, under}
use Rattle.job_loading.specs.Refusals.{job_refusal, refused_field}
use Rattle.pipe_job.specs.Reading.{pipeline_of}
use Rattle.pipe_job.specs.ingest_pipe_declared.processors.Pipeline.{Pipeline}
use Rattle.pipe_job.specs.ingest_pipe_declared.scripts.PipeScript.{PipeScript}
use Rattle.job_commands.specs.Scripts.{ArePrograms, JobProgram, RefusedScript, script_told}

-- ---- the pipeline of a job

-- the first place of a pipeline that is wrong, by its path
abbrev pub pipeline_refusal : List ℕ → Told
pipeline_refusal path = refusal (refused_field path (codes "PipelineBad") 33)

-- a job of another context, which none is that is read for the command, would be refused
abbrev pub no_pipeline : Told
no_pipeline = refusal (job_refusal (field (codes "context")))

abbrev pub pipeline_told : Result Pipeline (List ℕ) → Result Pipeline Told
pipeline_told (Ok pipeline) = Ok pipeline
pipeline_told (Err path) = Err (pipeline_refusal path)

abbrev pub pipeline_by : JobContext → Data → Result Pipeline Told
pipeline_by c.Pipe d = pipeline_told (pipeline_of d)
pipeline_by c.Eval d = Err no_pipeline
pipeline_by c.Filter d = Err no_pipeline
pipeline_by c.Score d = Err no_pipeline
pipeline_by c.Field d = Err no_pipeline
pipeline_by c.Update d = Err no_pipeline
pipeline_by c.Ingest d = Err no_pipeline
pipeline_by c.Metric d = Err no_pipeline
pipeline_by c.Updates d = Err no_pipeline
pipeline_by c.Serve d = Err no_pipeline
pipeline_by c.FunctionScore d = Err no_pipeline

abbrev pub pipeline_in : JobData → Result Pipeline Told
pipeline_in job = pipeline_by job.context job.particulars.pipeline

-- ---- the job and its allowlist

pub record PipeUnder : Type 0 where
  pub under : JobUnder
  pub pipeline : Pipeline

abbrev pub with_pipeline : Pipeline → Result JobUnder Told → Result PipeUnder Told
with_pipeline pipeline (Ok under) = Ok (record { under = under; pipeline = pipeline })
with_pipeline pipeline (Err told) = Err told

abbrev pub behind_pipeline : (List ℕ → Option (List ℕ)) → JobData → Result Pipeline Told → Result PipeUnder Told
behind_pipeline content job (Ok pipeline) = with_pipeline pipeline (under job (list_named content job.allow))
behind_pipeline content job (Err told) = Err told

abbrev pub behind_job : (List ℕ → Option (List ℕ)) → Result JobData Told → Result PipeUnder Told
behind_job content (Ok job) = behind_pipeline content job (pipeline_in job)
behind_job content (Err told) = Err told

-- the job in the file of a name, with its pipeline and its list
abbrev pub pipe_under : (List ℕ → Option (List ℕ)) → List ℕ → Result PipeUnder Told
pipe_under content name = behind_job content (job_in_file command.Pipe (file_told (content name)))

-- ---- which files are asked for: where the pipeline is wrong, no allowlist

abbrev pub asked_behind_pipeline : List ℕ → JobData → Result Pipeline Told → List (List ℕ)
asked_behind_pipeline name job (Ok pipeline) = list_asked name job.allow
asked_behind_pipeline name job (Err told) = []

abbrev pub asked_behind_job : List ℕ → Result JobData Told → List (List ℕ)
asked_behind_job name (Ok job) = asked_behind_pipeline name job (pipeline_in job)
asked_behind_job name (Err told) = []

abbrev pub pipe_asked : List ℕ → (List ℕ → Option (List ℕ)) → List (List ℕ)
pipe_asked name content = name ∷ asked_behind_job name (job_in_file command.Pipe (file_told (content name)))

-- ---- its programs

pub record Piped : Type 0 where
  pub of : PipeUnder
  pub programs : List JobProgram

-- each script behind its path
abbrev pub texts_of : List PipeScript → List (List ℕ × List ℕ)
texts_of [] = []
texts_of (script ∷ scripts) = (script.path, script.text) ∷ texts_of scripts

abbrev pub piped_with : PipeUnder → Result (List JobProgram) RefusedScript → Result Piped Told
piped_with u (Ok programs) = Ok (record { of = u; programs = programs })
piped_with u (Err wrong) = Err (script_told u.under wrong)

abbrev pub Pipes : PipeUnder → Result Piped Told → Type 0
Pipes u answer = (found : Result (List JobProgram) RefusedScript) × ArePrograms u.under (texts_of u.pipeline.scripts) found × (answer ≡ piped_with u found)

abbrev pub PipesRead : Result PipeUnder Told → Result Piped Told → Type 0
PipesRead (Ok u) answer = Pipes u answer
PipesRead (Err told) answer = answer ≡ Err told

-- the job in the file of a name, with the programs of its scripts
abbrev pub PipesJob : (List ℕ → Option (List ℕ)) → List ℕ → Result Piped Told → Type 0
PipesJob content name = PipesRead (pipe_under content name)
