-- The replies are those of the job.
use Rattle.std.proofs.Common.{◌≡◌, List, ℕ, ap, subst, sym, ◌∙◌}
use Rattle.job_file.specs.Answers.{job_view}
use Rattle.document_replies.specs.LineRunReplies.{stateless}
use Rattle.document_replies.specs.LinesSeen.{lines_seen}
use Rattle.document_replies.specs.line_run_declared.ran.Ran.{Ran}
use Rattle.job_commands.specs.Contexts.{keys_in}
use Rattle.job_commands.specs.Documents.{GivesReplies, Lists, front_for, ran_by}
use Rattle.job_commands.proofs.Lines.{ready_so}
use Rattle.job_commands.proofs.RunEnds.{passes_so, passes_nothing, passes_report}
use Rattle.job_commands.proofs.run_command.run_documents.Goals as goal

pub run_lines-ran-requires : goal.run_lines-ran-requires
run_lines-ran-requires g c = ready_so c.args.lines c.args.job c.document_job-documents.result c.document_job-documents.ensures c.requires.over c.requires.ready

pub returns-in_default-clause-passes : goal.returns-in_default-clause-passes
returns-in_default-clause-passes g c =
    let job = c.args.job in
    passes_nothing (stateless (GivesReplies (lines_seen (keys_in (job_view job.found.job)) c.args.lines) job)) (front_for job) job.found.job.limits.input (ran_by c.quiet.result)
    (g.S.Source.left c.args.input.now) (g.K.Sink.held c.args.out.now) c.quiet.ensures.status

pub returns-clause-lists : goal.returns-clause-lists
returns-clause-lists g c = subst (λ (l : List (List ℕ)). Lists l c.report_of.result) c.in-Ok.ensures.listings c.report_of.ensures.lists

pub returns-clause-passes : goal.returns-clause-passes
returns-clause-passes g c =
    let job = c.args.job in
    let left = g.S.Source.left c.args.input.now in
    let left' = g.S.Source.left c.run_lines-ran.new.input in
    let old = g.K.Sink.held c.args.out.now in
    let new = g.K.Sink.held c.run_lines-ran.new.out in
    passes_report (stateless (GivesReplies (lines_seen (keys_in (job_view job.found.job)) c.args.lines) job)) (front_for job) job.found.job.limits.input c.run_lines-ran.result c.report_of.result
    left left' old new c.report_of.ensures.ran
    (passes_so c.args.lines job c.document_job-documents.result c.document_job-documents.ensures (front_for job) job.found.job.limits.input c.run_lines-ran.result left left' old new
    (c.run_lines-ran.ensures.passes (front_for job) (sym c.in-Ok.ensures.front)))

pub returns-clause-well_read : goal.returns-clause-well_read
returns-clause-well_read g c =
    let same : c.report_of.result.status ≡ c.run_lines-ran.result.status = ap (λ (ran : Ran). ran.status) c.report_of.ensures.ran in
    λ other. c.run_lines-ran.ensures.well_read (λ is. other (same ∙ is))

pub returns-clause-written : goal.returns-clause-written
returns-clause-written g c =
    let same : c.report_of.result.status ≡ c.run_lines-ran.result.status = ap (λ (ran : Ran). ran.status) c.report_of.ensures.ran in
    λ other. c.run_lines-ran.ensures.written (λ is. other (same ∙ is))
