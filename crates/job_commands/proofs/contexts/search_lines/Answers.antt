-- The lines are those of a context over documents.
use Rattle.std.proofs.Common.{Some, ap}
use Rattle.job_file.specs.Answers.{job_view}
use Rattle.document_replies.specs.Searches.{Documents, search_context}
use Rattle.job_commands.specs.Contexts.{keys_in}
use Rattle.job_commands.proofs.contexts.search_lines.Goals as goal

pub returns : goal.returns
returns c = ap (λ (documents : Documents). Some (search_context documents (keys_in (job_view c.args.found.now.job)))) c.in_ok-context.ensures
