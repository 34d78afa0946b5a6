-- The pipeline of a job, and what stands under its names.
use Rattle.std.proofs.Common.{◌≡◌, ℕ, ◌≤◌, ◌++◌, List, [], ◌∷◌, Option, Some, None, IfSome, Result, Ok, Err, length, refl, sym, ap, ◌∙◌, subst}
use Rattle.serde_json.specs.Data.{Data}
use Rattle.outer_io.specs.Asking.{AsksFront}
use Rattle.job_file.specs.declared.context.JobContext.{JobContext}
use Rattle.job_file.specs.declared.context.JobContext.TheVariants as c
use Rattle.job_file.specs.declared.context.JobCommand.TheVariants as command
use Rattle.job_file.specs.Jobs.{JobData}
use Rattle.command_parts.specs.declared.stop.Stop.{Stop}
use Rattle.command_parts.specs.Asking.{AsksBy}
use Rattle.command_parts.specs.Files.{file_told}
use Rattle.command_parts.specs.Stops.{ComesSo, stop_told}
use Rattle.command_parts.specs.Told.{Told, file_limit}
use Rattle.command_parts.proofs.Asking.{asks_always, asks_more, asks_then}
use Rattle.command_parts.proofs.Found.{short_told}
use Rattle.job_loading.specs.Allow.{AllowList}
use Rattle.job_loading.specs.Asked.{list_asked}
use Rattle.job_loading.specs.Loading.{job_in_bytes, job_in_file, job_told, list_named, under}
use Rattle.job_loading.proofs.Found.{one_found}
use Rattle.pipe_job.specs.ingest_pipe_declared.processors.Pipeline.{Pipeline}
use Rattle.pipe_command.specs.Pipelines.{PipeUnder, asked_behind_job, asked_behind_pipeline, behind_job, behind_pipeline, pipe_asked, pipe_under, pipeline_by, pipeline_in, pipeline_refusal, pipeline_told, with_pipeline}
use Rattle.pipe_command.specs.Preparing.{pipe_view}
use Rattle.pipe_command.specs.declared.reading.ReadPipe.{ReadPipe}

-- ---- the job's context

pub pipe_context : (of : JobContext) (d : Data) (pipeline : Pipeline) → pipeline_by of d ≡ Ok pipeline → of ≡ c.Pipe
pipe_context c.Pipe d pipeline is = refl
pipe_context c.Eval d pipeline is = absurd cc
pipe_context c.Filter d pipeline is = absurd cc
pipe_context c.Score d pipeline is = absurd cc
pipe_context c.Field d pipeline is = absurd cc
pipe_context c.Update d pipeline is = absurd cc
pipe_context c.Ingest d pipeline is = absurd cc
pipe_context c.Metric d pipeline is = absurd cc
pipe_context c.Updates d pipeline is = absurd cc
pipe_context c.Serve d pipeline is = absurd cc
pipe_context c.FunctionScore d pipeline is = absurd cc

abbrev IsOfPipe : Result PipeUnder Told → Type 0
IsOfPipe (Ok u) = u.under.job.context ≡ c.Pipe
IsOfPipe (Err told) = Unit {0}

with_list_of : (job : JobData) (pipeline : Pipeline) → job.context ≡ c.Pipe → (list : Result AllowList Told) → IsOfPipe (with_pipeline pipeline (under job list))
with_list_of job pipeline is (Ok allow) = is
with_list_of job pipeline is (Err told) = tt

with_pipeline_of : (content : List ℕ → Option (List ℕ)) (job : JobData) (found : Result Pipeline Told) → pipeline_in job ≡ found → IsOfPipe (behind_pipeline content job found)
with_pipeline_of content job (Ok pipeline) is = with_list_of job pipeline (pipe_context job.context job.particulars.pipeline pipeline is) (list_named content job.allow)
with_pipeline_of content job (Err told) is = tt

job_of_pipe : (content : List ℕ → Option (List ℕ)) (found : Result JobData Told) → IsOfPipe (behind_job content found)
job_of_pipe content (Ok job) = with_pipeline_of content job (pipeline_in job) refl
job_of_pipe content (Err told) = tt

-- a job that is read is one of a pipeline
pub under_pipe : (content : List ℕ → Option (List ℕ)) (name : List ℕ) (u : PipeUnder) → pipe_under content name ≡ Ok u → u.under.job.context ≡ c.Pipe
under_pipe content name u is = subst IsOfPipe is (job_of_pipe content (job_in_file command.Pipe (file_told (content name))))

-- ---- stops

if_some : (told : Option Told) (P Q : Told → Type 0) → ((t : Told) → P t → Q t) → IfSome told P → IfSome told Q
if_some None P Q to h = tt
if_some (Some t) P Q to h = to t h

-- what stops tells that this is refused
pub refused_so : {X : Type 0} (told : Option Told) (refused : Told) (meaning : Result X Told) → meaning ≡ Err refused → IfSome told (λ t. t ≡ refused) → IfSome told (λ t. meaning ≡ Err t)
refused_so told refused meaning is = if_some told (λ t. t ≡ refused) (λ t. meaning ≡ Err t) (λ t same. is ∙ ap Err (sym same))

-- the pipeline of a value is read
pub pipeline_read : (meaning : Result Pipeline (List ℕ)) (pipeline : Pipeline) → meaning ≡ Ok pipeline → pipeline_told meaning ≡ Ok pipeline
pipeline_read meaning pipeline is = ap pipeline_told is

-- .. or a place of it is wrong
pub pipeline_bad : (meaning : Result Pipeline (List ℕ)) (path : List ℕ) (stop : Stop) → meaning ≡ Err path → IfSome (stop_told stop) (λ t. t ≡ pipeline_refusal path)
    → IfSome (stop_told stop) (λ t. pipeline_told meaning ≡ Err t)
pipeline_bad meaning path stop is = refused_so (stop_told stop) (pipeline_refusal path) (pipeline_told meaning) (ap pipeline_told is)

-- a job of a pipeline has its own
pub its_pipeline : (of : JobContext) (d : Data) (result : Result Pipeline Stop) → of ≡ c.Pipe → ComesSo (λ (p : Pipeline). p) result (pipeline_by c.Pipe d) → ComesSo (λ (p : Pipeline). p) result (pipeline_by of d)
its_pipeline of d result is = subst (λ (x : JobContext). ComesSo (λ (p : Pipeline). p) result (pipeline_by x d)) (sym is)

-- the job is refused
pub job_missing : (content : List ℕ → Option (List ℕ)) (meaning : Result JobData Told) (stop : Stop) → IfSome (stop_told stop) (λ t. meaning ≡ Err t)
    → ComesSo pipe_view (Err stop) (behind_job content meaning)
job_missing content meaning stop = if_some (stop_told stop) (λ t. meaning ≡ Err t) (λ t. behind_job content meaning ≡ Err t) (λ t is. ap (behind_job content) is)

-- .. or its pipeline
pub pipeline_missing : (content : List ℕ → Option (List ℕ)) (meaning : Result JobData Told) (job : JobData) (stop : Stop) → meaning ≡ Ok job
    → IfSome (stop_told stop) (λ t. pipeline_in job ≡ Err t) → ComesSo pipe_view (Err stop) (behind_job content meaning)
pipeline_missing content meaning job stop read =
    if_some (stop_told stop) (λ t. pipeline_in job ≡ Err t) (λ t. behind_job content meaning ≡ Err t) (λ t is. ap (behind_job content) read ∙ ap (behind_pipeline content job) is)

-- .. or its list
pub list_missing : (content : List ℕ → Option (List ℕ)) (meaning : Result JobData Told) (job : JobData) (pipeline : Pipeline) (stop : Stop) → meaning ≡ Ok job → pipeline_in job ≡ Ok pipeline
    → IfSome (stop_told stop) (λ t. list_named content job.allow ≡ Err t) → ComesSo pipe_view (Err stop) (behind_job content meaning)
list_missing content meaning job pipeline stop read piped =
    if_some (stop_told stop) (λ t. list_named content job.allow ≡ Err t) (λ t. behind_job content meaning ≡ Err t)
    (λ t is. ap (behind_job content) read ∙ ap (behind_pipeline content job) piped ∙ ap (λ (list : Result AllowList Told). with_pipeline pipeline (under job list)) is)

-- or all is read
pub pipe_found : (content : List ℕ → Option (List ℕ)) (meaning : Result JobData Told) (job : JobData) (pipeline : Pipeline) (allow : AllowList) → meaning ≡ Ok job → pipeline_in job ≡ Ok pipeline
    → list_named content job.allow ≡ Ok allow → behind_job content meaning ≡ Ok (record { under = record { job = job; allow = allow }; pipeline = pipeline })
pipe_found content meaning job pipeline allow read piped is =
    ap (behind_job content) read ∙ ap (behind_pipeline content job) piped ∙ ap (λ (list : Result AllowList Told). with_pipeline pipeline (under job list)) is

-- the job's file is none
pub file_missing : (known : Option (List ℕ → Option (List ℕ))) (name : List ℕ) (found : Option (List ℕ)) (stop : Stop) → IfSome known (λ k. k name ≡ found)
    → IfSome (stop_told stop) (λ t. file_told found ≡ Err t)
    → (content : List ℕ → Option (List ℕ)) × IfSome known (λ k. k ≡ content) × ComesSo pipe_view (Err stop) (pipe_under content name)
file_missing known name found stop is h =
    let o = one_found known name found is in (
      o.0,
      o.1,
      if_some (stop_told stop) (λ t. file_told found ≡ Err t) (λ t. pipe_under o.0 name ≡ Err t)
          (λ t wrong. ap (λ (f : Option (List ℕ)). behind_job o.0 (job_in_file command.Pipe (file_told f))) o.2 ∙ ap (λ (m : Result (List ℕ) Told). behind_job o.0 (job_in_file command.Pipe m)) wrong) h,
    )

-- from the bytes of the job's file
pub bytes_so : (content : List ℕ → Option (List ℕ)) (name bytes : List ℕ) (result : Result ReadPipe Stop) → content name ≡ Some bytes → length bytes ≤ file_limit
    → ComesSo pipe_view result (behind_job content (job_told (job_in_bytes command.Pipe bytes))) → ComesSo pipe_view result (pipe_under content name)
bytes_so content name bytes result holds short h =
    subst (λ (m : Result (List ℕ) Told). ComesSo pipe_view result (behind_job content (job_in_file command.Pipe m))) (sym (ap file_told holds ∙ short_told bytes short)) h

-- ---- names

pub behind_so : (old new : List (List ℕ)) (name : List ℕ) (meaning : Result JobData Told) (job : JobData) (pipeline : Pipeline) → meaning ≡ Ok job → pipeline_in job ≡ Ok pipeline
    → AsksFront old new (list_asked name job.allow) → AsksFront old new (asked_behind_job name meaning)
behind_so old new name meaning job pipeline read piped h =
    subst (AsksFront old new) (sym (ap (asked_behind_job name) read ∙ ap (asked_behind_pipeline name job) piped)) h

pub file_asked : (known : Option (List ℕ → Option (List ℕ))) (old new : List (List ℕ)) (name : List ℕ) → AsksFront old new (name ∷ []) → AsksBy known old new (pipe_asked name)
file_asked known old new name h =
    asks_always known old new (pipe_asked name) (λ content. asks_more old new (name ∷ []) (asked_behind_job name (job_in_file command.Pipe (file_told (content name)))) h)

pub both_asked : (known : Option (List ℕ → Option (List ℕ))) (old mid new : List (List ℕ)) (name bytes : List ℕ) (content : List ℕ → Option (List ℕ)) → IfSome known (λ k. k ≡ content)
    → content name ≡ Some bytes → length bytes ≤ file_limit → mid ≡ old ++ name ∷ [] → AsksFront mid new (asked_behind_job name (job_told (job_in_bytes command.Pipe bytes)))
    → AsksBy known old new (pipe_asked name)
both_asked known old mid new name bytes content shown holds short is h = record {
  content = content;
  shown = shown;
  front =
      asks_then old mid new name (asked_behind_job name (job_in_file command.Pipe (file_told (content name)))) is
      (subst (λ (m : Result (List ℕ) Told). AsksFront mid new (asked_behind_job name (job_in_file command.Pipe m))) (sym (ap file_told holds ∙ short_told bytes short)) h);
}
