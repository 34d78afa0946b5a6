-- The replies are those of the job.
use Rattle.std.proofs.Common.{◌≡◌, List, ℕ, ap, subst, sym, ◌∙◌}
use Rattle.document_replies.specs.line_run_declared.ran.Ran.{Ran}
use Rattle.job_commands.specs.Documents.{Lists}
use Rattle.job_commands.specs.Listing.{listings_of}
use Rattle.job_commands.specs.declared.script.LimitedScript.{LimitedScript}
use Rattle.pipe_job.specs.declared.answers.PipedScript.{PipedScript}
use Rattle.pipe_command.specs.Preparing.{codes_of}
use Rattle.pipe_command.proofs.Ends.{ends_nothing, job_passes, takes_so}
use Rattle.pipe_command.proofs.command.run_prepared.Goals as goal

pub run_lines-ran-requires : goal.run_lines-ran-requires
run_lines-ran-requires g c = takes_so c.args.job c.pipe_job-replier.result c.pipe_job-replier.ensures.pipeline c.pipe_job-replier.ensures.scripts c.pipe_job-replier.ensures.room c.requires.ready

pub returns-in_default-clause-told : goal.returns-in_default-clause-told
returns-in_default-clause-told g c =
    ends_nothing c.args.job c.quiet.result (g.S.Source.left c.args.input.now) (g.K.Sink.held c.args.out.now) c.quiet.ensures.status c.quiet.ensures.quiet

pub returns-clause-told : goal.returns-clause-told
returns-clause-told g c = (
  subst (λ (l : List (List ℕ)). Lists l c.report_of.result) (c.in-Ok.ensures ∙ ap (λ (xs : List (PipedScript LimitedScript)). listings_of (codes_of xs)) c.as_slice.ensures.value)
      c.report_of.ensures.lists,
  job_passes c.args.job c.pipe_job-replier.result c.pipe_job-replier.ensures.pipeline c.pipe_job-replier.ensures.scripts c.pipe_job-replier.ensures.room c.run_lines-ran.result c.report_of.result
      (g.S.Source.left c.args.input.now) (g.S.Source.left c.run_lines-ran.new.input) (g.K.Sink.held c.args.out.now) (g.K.Sink.held c.run_lines-ran.new.out) c.report_of.ensures.ran
      (λ before is. c.run_lines-ran.ensures.passes before (is ∙ sym c.new.ensures.items)),
)

pub returns-clause-well_read : goal.returns-clause-well_read
returns-clause-well_read g c =
    let same : c.report_of.result.status ≡ c.run_lines-ran.result.status = ap (λ (ran : Ran). ran.status) c.report_of.ensures.ran in
    λ other. c.run_lines-ran.ensures.well_read (λ is. other (same ∙ is))

pub returns-clause-written : goal.returns-clause-written
returns-clause-written g c =
    let same : c.report_of.result.status ≡ c.run_lines-ran.result.status = ap (λ (ran : Ran). ran.status) c.report_of.ensures.ran in
    λ other. c.run_lines-ran.ensures.written (λ is. other (same ∙ is))
