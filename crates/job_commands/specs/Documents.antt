-- How the code replies to the lines of a job, and how it ends.
use Rattle.std.specs.Prelude.{◌≡◌, ℕ, List, Option, Some, None}
use Rattle.outer_io.specs.Lines.{InputLine}
use Rattle.job_file.specs.Answers.{job_view}
use Rattle.command_parts.specs.declared.report.Report.{Report}
use Rattle.command_parts.specs.declared.status.Status.{Status}
use Rattle.command_parts.specs.declared.status.Status.TheVariants as s
use Rattle.command_parts.specs.Reports.{IsQuiet, texts_of}
use Rattle.command_parts.specs.Writing.{Writes}
use Rattle.document_replies.specs.line_run_declared.ran.Ran.{Ran}
use Rattle.document_replies.specs.Passing.{Passes}
use Rattle.document_replies.specs.LineRunReplies.{Front, Reply, stateless}
use Rattle.document_replies.specs.declared.job.DocumentJob.{DocumentJob}
use Rattle.document_replies.specs.Jobs.{by_start}
use Rattle.document_replies.specs.Replies.{Context, IsReply}
use Rattle.job_commands.specs.Contexts.{context_in, keys_in}
use Rattle.job_commands.specs.Listing.{listings_of}
use Rattle.job_commands.specs.Preparing.{EndsAsItsProgram, codes_of}
use Rattle.job_commands.specs.Running.{front_bytes, no_documents}
use Rattle.job_commands.specs.declared.preparing.PreparedJob.{PreparedJob}
use Rattle.job_commands.specs.declared.script.LimitedScript.{LimitedScript}

-- the first script of a job with its limits
abbrev pub limited : PreparedJob → LimitedScript
limited job = record {
  script = job.scripts.first;
  limits = record { loops = job.found.job.limits.loops; depth = job.found.job.limits.depth; ticks = job.found.job.limits.ticks };
}

-- a job of the code over lines, in a context of the code
abbrev pub IsDocumentJob : {C : Type 0} → C → PreparedJob → DocumentJob C LimitedScript → Type 0
IsDocumentJob context job d = (d.context ≡ context) × (d.keys ≡ keys_in (job_view job.found.job)) × (d.script ≡ limited job)

-- the reply that a job gives to a line in a context
abbrev pub GivesReplies : Context → PreparedJob → InputLine → Reply → Type 0
GivesReplies context job = IsReply job.scripts.first.executable.allow context (by_start (EndsAsItsProgram (limited job)))

-- what stands before the replies, and the listings of its codes
abbrev pub front_for : PreparedJob → Front
front_for job = record { bytes = front_bytes (job_view job.found.job) (codes_of job.scripts); listings = listings_of (codes_of job.scripts) }

-- ---- ends

-- a report as what is known of its lines
abbrev pub ran_by : Report → Ran
ran_by r = record { status = r.status; steps = r.steps }

-- with these statuses a report has listings
abbrev pub ListsBy : Status → List (List ℕ) → Report → Type 0
ListsBy s.Done listings r = texts_of r ≡ listings
ListsBy s.SomeErrors listings r = texts_of r ≡ listings
ListsBy other listings r = IsQuiet r

-- the report of a run over lines has the listings of its codes where it came to the end of its input, and else nothing
abbrev pub Lists : List (List ℕ) → Report → Type 0
Lists listings r = ListsBy r.status listings r

abbrev pub EndsBy : Option Context → PreparedJob → Report → Option (List ℕ) → Option (List ℕ) → Option (List ℕ) → Option (List ℕ) → Type 0
EndsBy (Some context) job r left left' old new =
    Lists (listings_of (codes_of job.scripts)) r × Passes (stateless (GivesReplies context job)) (front_for job) job.found.job.limits.input (ran_by r) left left' old new
EndsBy None job r left left' old new = IsQuiet r × Writes no_documents r.status old new

-- how a job that is prepared ends, by its context
abbrev pub EndsPrepared : PreparedJob → Report → Option (List ℕ) → Option (List ℕ) → Option (List ℕ) → Option (List ℕ) → Type 0
EndsPrepared job = EndsBy (context_in (job_view job.found.job)) job
