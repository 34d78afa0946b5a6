-- The lines are those of a context of documents that a script changes.
use Rattle.std.proofs.Common.{Some, ap}
use Rattle.job_file.specs.Answers.{job_view}
use Rattle.document_replies.specs.Changes.{Changes, change_context}
use Rattle.job_commands.specs.Contexts.{keys_in}
use Rattle.job_commands.proofs.contexts.change_lines.Goals as goal

pub returns : goal.returns
returns c = ap (λ (changes : Changes). Some (change_context changes (keys_in (job_view c.args.found.now.job)))) c.in_ok-context.ensures
