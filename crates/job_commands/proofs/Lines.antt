-- What a job takes that is made for its lines.
use Rattle.std.proofs.Common.{◌≡◌, Some, Ok, sym, subst}
use Rattle.job_file.specs.Answers.{job_view}
use Rattle.document_replies.specs.declared.job.DocumentJob.{DocumentJob}
use Rattle.document_replies.specs.declared.lines.JobLines.{JobLines}
use Rattle.document_replies.specs.Jobs.{TakesStarts}
use Rattle.document_replies.specs.LinesSeen.{lines_seen, start_in}
use Rattle.job_commands.specs.Contexts.{context_in, keys_in}
use Rattle.job_commands.specs.Documents.{IsDocumentJob}
use Rattle.job_commands.specs.Preparing.{IsReady, TakesThem}
use Rattle.job_commands.specs.declared.preparing.PreparedJob.{PreparedJob}
use Rattle.job_commands.specs.declared.script.LimitedScript.{LimitedScript}
use Rattle.job_commands.proofs.Typed.{starts_take}

-- its script takes the arguments of each start
pub ready_so : (lines : JobLines) (job : PreparedJob) (d : DocumentJob JobLines LimitedScript) → IsDocumentJob lines job d
    → context_in (job_view job.found.job) ≡ Some (lines_seen (keys_in (job_view job.found.job)) lines) → IsReady job → TakesStarts (start_in d.context) (TakesThem d.script)
ready_so lines job d is over (program, ready) line begun bound =
    let seen = lines_seen (keys_in (job_view job.found.job)) lines in
    let here : start_in lines line ≡ Ok begun = subst (λ (x : JobLines). start_in x line ≡ Ok begun) is.0 bound in
    subst (λ (s : LimitedScript). TakesThem s begun.args) (sym is.2) (ready.rows, ready.takes begun.args (starts_take (job_view job.found.job) program.key seen over line begun here))
