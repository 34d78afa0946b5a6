-- The context of the job decides.
use Rattle.std.proofs.Common.{◌≡◌, Some, None, ap, sym, ◌∙◌}
use Rattle.std.specs.Prelude.{option_map}
use Rattle.job_file.specs.Answers.{job_view}
use Rattle.command_parts.proofs.Statuses.{refused_status}
use Rattle.document_replies.specs.LineRunReplies.{stateless}
use Rattle.document_replies.specs.LinesSeen.{lines_seen}
use Rattle.job_commands.specs.Contexts.{context_in, keys_in}
use Rattle.job_commands.specs.Documents.{GivesReplies, front_for, ran_by}
use Rattle.job_commands.proofs.RunEnds.{ends_lines, ends_none, ends_nothing}
use Rattle.job_commands.proofs.Statuses.{passes_leave, passes_file}
use Rattle.job_commands.proofs.run_command.run_prepared.Goals as goal

pub returns-in_default-clause-told : goal.returns-in_default-clause-told
returns-in_default-clause-told g c =
    ends_nothing c.args.job c.quiet.result (g.S.Source.left c.args.input.now) (g.K.Sink.held c.args.out.now) c.quiet.ensures.status c.quiet.ensures.quiet

pub run_documents-requires-clause-over : goal.run_documents-requires-clause-over
run_documents-requires-clause-over g c = sym c.in-Ok.ensures ∙ ap (option_map (lines_seen (keys_in (job_view c.args.job.found.job)))) c.in-Some.is

pub returns-in-Some-clause-told : goal.returns-in-Some-clause-told
returns-in-Some-clause-told g c =
    let job = c.args.job in
    let seen = lines_seen (keys_in (job_view job.found.job)) in
    let of : context_in (job_view job.found.job) ≡ Some (seen c.in-Some.lines) = sym c.in-Ok.ensures ∙ ap (option_map seen) c.in-Some.is in
    ends_lines (seen c.in-Some.lines) job c.run_documents.result (g.S.Source.left c.args.input.now) (g.S.Source.left c.run_documents.new.input) (g.K.Sink.held c.args.out.now)
    (g.K.Sink.held c.run_documents.new.out) of c.run_documents.ensures.lists c.run_documents.ensures.passes

pub returns-in-Some-clause-untouched : goal.returns-in-Some-clause-untouched
returns-in-Some-clause-untouched g c = λ leaves.
    let job = c.args.job in
    absurd (passes_leave (stateless (GivesReplies (lines_seen (keys_in (job_view job.found.job)) c.in-Some.lines) job)) (front_for job) job.found.job.limits.input (ran_by c.run_documents.result)
    (g.S.Source.left c.args.input.now) (g.S.Source.left c.run_documents.new.input) (g.K.Sink.held c.args.out.now) (g.K.Sink.held c.run_documents.new.out) c.run_documents.ensures.passes leaves)

pub returns-in-Some-clause-quiet : goal.returns-in-Some-clause-quiet
returns-in-Some-clause-quiet g c =
    let job = c.args.job in
    passes_file (stateless (GivesReplies (lines_seen (keys_in (job_view job.found.job)) c.in-Some.lines) job)) (front_for job) job.found.job.limits.input (ran_by c.run_documents.result)
    (g.S.Source.left c.args.input.now) (g.S.Source.left c.run_documents.new.input) (g.K.Sink.held c.args.out.now) (g.K.Sink.held c.run_documents.new.out) c.run_documents.ensures.passes

pub returns-in-None-clause-told : goal.returns-in-None-clause-told
returns-in-None-clause-told g c =
    let job = c.args.job in
    let seen = lines_seen (keys_in (job_view job.found.job)) in
    let of : context_in (job_view job.found.job) ≡ None = sym c.in-Ok.ensures ∙ ap (option_map seen) c.in-None.is in
    ends_none job c.key_refused-stop.result c.end_with.result c.quiet-in-None.result (g.S.Source.left c.args.input.now) (g.S.Source.left c.args.input.now) (g.K.Sink.held c.args.out.now)
    (g.K.Sink.held c.end_with.new.out) of c.key_refused-stop.ensures.quiet c.key_refused-stop.ensures.told c.end_with.ensures.ends c.quiet-in-None.ensures.status c.quiet-in-None.ensures.quiet

pub returns-in-None-clause-quiet : goal.returns-in-None-clause-quiet
returns-in-None-clause-quiet g c = λ is.
    refused_status c.key_refused-stop.result c.end_with.result (g.K.Sink.held c.args.out.now) (g.K.Sink.held c.end_with.new.out) c.key_refused-stop.ensures.quiet c.end_with.ensures.ends
    (sym c.quiet-in-None.ensures.status ∙ is)
