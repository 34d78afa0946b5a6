-- How a run over the lines of a job that is prepared ends.
use Rattle.std.proofs.Common.{◌≡◌, ◌≢◌, ℕ, List, Option, Some, None, IfSome, inr, refl, sym, ap, ◌∙◌, subst}
use Rattle.outer_io.specs.Front.{AppendsFront}
use Rattle.job_file.specs.Answers.{job_view}
use Rattle.command_parts.specs.declared.report.Report.{Report}
use Rattle.command_parts.specs.declared.status.Status.{Status}
use Rattle.command_parts.specs.declared.status.Status.TheVariants as s
use Rattle.command_parts.specs.declared.stop.Stop.{Stop}
use Rattle.command_parts.specs.declared.stop.Stop.TheVariants as stop
use Rattle.command_parts.specs.Ending.{EndsSo}
use Rattle.command_parts.specs.Reports.{IsQuiet}
use Rattle.command_parts.specs.Stops.{stop_told}
use Rattle.command_parts.specs.Told.{Told}
use Rattle.command_parts.specs.Writing.{Writes}
use Rattle.command_parts.proofs.Delivering.{nothing, no_front}
use Rattle.document_replies.specs.json_replies_declared.showing.ShownKeys.{ShownKeys}
use Rattle.document_replies.specs.line_run_declared.ran.Ran.{Ran}
use Rattle.document_replies.specs.Passing.{Passes, PassesBy}
use Rattle.document_replies.specs.LineRunReplies.{Front, Talk, stateless}
use Rattle.document_replies.proofs.Pass.{pass_nothing}
use Rattle.document_replies.specs.declared.job.DocumentJob.{DocumentJob}
use Rattle.document_replies.specs.declared.lines.JobLines.{JobLines}
use Rattle.document_replies.specs.Jobs.{by_start}
use Rattle.document_replies.specs.LinesSeen.{lines_seen}
use Rattle.document_replies.specs.Replies.{Context, IsReply}
use Rattle.job_commands.specs.Contexts.{context_in, keys_in}
use Rattle.job_commands.specs.Documents.{GivesReplies, IsDocumentJob, EndsBy, EndsPrepared, Lists, front_for, limited, ran_by}
use Rattle.job_commands.specs.Listing.{listings_of}
use Rattle.job_commands.specs.Preparing.{EndsAsItsProgram, codes_of}
use Rattle.job_commands.specs.Running.{no_documents}
use Rattle.job_commands.specs.declared.preparing.PreparedJob.{PreparedJob}
use Rattle.job_commands.specs.declared.script.LimitedScript.{LimitedScript}
use Rattle.job_commands.proofs.Statuses.{quiet_lists}

-- what replies to lines alone by a script in a context
abbrev RepliesBy : ShownKeys → JobLines → LimitedScript → Talk
RepliesBy keys lines script = stateless (IsReply script.script.executable.allow (lines_seen keys lines) (by_start (EndsAsItsProgram script)))

-- the replies are those of the job
pub passes_so : (lines : JobLines) (job : PreparedJob) (d : DocumentJob JobLines LimitedScript) → IsDocumentJob lines job d → (front : Front) (limit : ℕ) (ran : Ran)
    (left left' old new : Option (List ℕ)) → Passes (stateless (IsReply d.script.script.executable.allow (lines_seen d.keys d.context) (by_start (EndsAsItsProgram d.script)))) front limit ran left left' old new
    → Passes (stateless (GivesReplies (lines_seen (keys_in (job_view job.found.job)) lines) job)) front limit ran left left' old new
passes_so lines job d is front limit ran left left' old new h =
    subst (λ (k : ShownKeys). Passes (RepliesBy k lines (limited job)) front limit ran left left' old new) is.1
    (subst (λ (l : JobLines). Passes (RepliesBy d.keys l (limited job)) front limit ran left left' old new) is.0
    (subst (λ (script : LimitedScript). Passes (RepliesBy d.keys d.context script) front limit ran left left' old new) is.2 h))

-- want of memory before the first line
pub passes_nothing : (talk : Talk) (front : Front) (limit : ℕ) (ran : Ran) (left old : Option (List ℕ)) → ran.status ≡ s.NoMemory → Passes talk front limit ran left left old old
passes_nothing talk front limit ran left old is =
    subst (λ (t : Status). PassesBy t talk front limit ran left left old old) (sym is) (pass_nothing talk front limit left old (nothing old))

-- the report is that of the run over the lines
pub passes_report : (talk : Talk) (front : Front) (limit : ℕ) (ran : Ran) (r : Report) (left left' old new : Option (List ℕ)) → ran_by r ≡ ran
    → Passes talk front limit ran left left' old new → Passes talk front limit (ran_by r) left left' old new
passes_report talk front limit ran r left left' old new same h = subst (λ (x : Ran). Passes talk front limit x left left' old new) (sym same) h

-- ---- by the context of the job

pub ends_lines : (context : Context) (job : PreparedJob) (r : Report) (left left' old new : Option (List ℕ)) → context_in (job_view job.found.job) ≡ Some context
    → Lists (listings_of (codes_of job.scripts)) r → Passes (stateless (GivesReplies context job)) (front_for job) job.found.job.limits.input (ran_by r) left left' old new
    → EndsPrepared job r left left' old new
ends_lines context job r left left' old new of lists h = subst (λ (k : Option Context). EndsBy k job r left left' old new) (sym of) (lists, h)

-- a stop that tells this, and is no fault of the files
stop_writes : (told : Told) (end : Stop) (status : Status) (old new : Option (List ℕ)) → told.status ≡ s.Refused → end ≢ stop.FileFault → IfSome (stop_told end) (λ t. t ≡ told)
    → EndsSo end status old new → Writes told status old new
stop_writes told (stop.Refused line) status old new refused quiet is ends = subst (λ (t : Told). Writes t status old new) is ends
stop_writes told stop.FileAbsent status old new refused quiet is ends =
    let never : s.FileAbsent ≡ s.Refused = ap (λ (t : Told). t.status) is ∙ refused in absurd cc
stop_writes told stop.FileLong status old new refused quiet is ends =
    let never : s.FileLong ≡ s.Refused = ap (λ (t : Told). t.status) is ∙ refused in absurd cc
stop_writes told stop.FileFault status old new refused quiet is ends = absurd (quiet refl)
stop_writes told stop.NoMemory status old new refused quiet is (at, same) =
    inr (inr at, subst (λ (n : Option (List ℕ)). AppendsFront old n told.bytes) (sym same) (no_front old told.bytes))

pub ends_none : (job : PreparedJob) (end : Stop) (status : Status) (r : Report) (left left' old new : Option (List ℕ)) → context_in (job_view job.found.job) ≡ None → end ≢ stop.FileFault
    → IfSome (stop_told end) (λ told. told ≡ no_documents) → EndsSo end status old new → r.status ≡ status → IsQuiet r → EndsPrepared job r left left' old new
ends_none job end status r left left' old new of no_fault told_so ends at quiet =
    subst (λ (k : Option Context). EndsBy k job r left left' old new) (sym of)
    (quiet, subst (λ (t : Status). Writes no_documents t old new) (sym at) (stop_writes no_documents end status old new refl no_fault told_so ends))

no_done : s.NoMemory ≡ s.Done → ⊥
no_done is = cc

no_errors : s.NoMemory ≡ s.SomeErrors → ⊥
no_errors is = cc

-- want of memory before anything was read
ends_nothing_by : (context : Option Context) (job : PreparedJob) (r : Report) (left old : Option (List ℕ)) → r.status ≡ s.NoMemory → IsQuiet r → EndsBy context job r left left old old
ends_nothing_by (Some context) job r left old at quiet = (
  quiet_lists (listings_of (codes_of job.scripts)) r (λ is. no_done (sym at ∙ is)) (λ is. no_errors (sym at ∙ is)) quiet,
  passes_nothing (stateless (GivesReplies context job)) (front_for job) job.found.job.limits.input (ran_by r) left old at,
)
ends_nothing_by None job r left old at quiet = (quiet, inr (inr at, no_front old no_documents.bytes))

pub ends_nothing : (job : PreparedJob) (r : Report) (left old : Option (List ℕ)) → r.status ≡ s.NoMemory → IsQuiet r → EndsPrepared job r left left old old
ends_nothing job = ends_nothing_by (context_in (job_view job.found.job)) job
