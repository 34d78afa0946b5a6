-- How the code ends.
use Rattle.std.specs.Prelude.{◌≡◌, ◌⊎◌, ℕ, List, Option}
use Rattle.job_file.specs.Answers.{job_view}
use Rattle.search_ctx.specs.declared.line.SearchKind.TheVariants as k
use Rattle.command_parts.specs.declared.report.Report.{Report}
use Rattle.command_parts.specs.declared.status.Status.TheVariants as s
use Rattle.command_parts.specs.Reports.{Reports}
use Rattle.command_parts.specs.Writing.{Writes}
use Rattle.document_replies.specs.Jobs.{by_start}
use Rattle.job_commands.specs.Contexts.{documents_in}
use Rattle.job_commands.specs.Documents.{limited}
use Rattle.job_commands.specs.Preparing.{EndsAsItsProgram, codes_of}
use Rattle.job_commands.specs.declared.preparing.PreparedJob.{PreparedJob}
use Rattle.job_commands.specs.declared.answer.Answer.{Answer}
use Rattle.job_commands.specs.declared.tally.Tally.{Tally}
use Rattle.job_commands.specs.Answers.{IsAnswer}
use Rattle.job_commands.specs.Generated.{IsTally, summary_told}

-- the answer that the script of a job gives
abbrev pub GivesAnswers : PreparedJob → ℕ → Answer → Type 0
GivesAnswers job = IsAnswer (documents_in k.Field (job_view job.found.job)) (by_start (EndsAsItsProgram (limited job)))

-- the summary of the answers is written and reported
pub record Summarizes (job : PreparedJob) (count : ℕ) (r : Report) (old new : Option (List ℕ)) : Type 0 where
  pub tally : Tally
  pub is : IsTally (GivesAnswers job) count tally
  pub reports : Reports (summary_told (codes_of job.scripts) count tally) r
  pub writes : Writes (summary_told (codes_of job.scripts) count tally) r.status old new

-- or memory ran out before anything was written
abbrev pub EndsFixed : PreparedJob → ℕ → Report → Option (List ℕ) → Option (List ℕ) → Type 0
EndsFixed job count r old new = ((r.status ≡ s.NoMemory) × (new ≡ old)) ⊎ Summarizes job count r old new
