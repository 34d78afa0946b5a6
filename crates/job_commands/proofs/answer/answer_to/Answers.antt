-- What is bound has the arguments of its kind.
use Rattle.std.proofs.Common.{◌≡◌, Ok, subst}
use Rattle.serde_json.specs.Data.{Data}
use Rattle.document_replies.specs.Starts.{start_view}
use Rattle.search_ctx.specs.Lines.{bound_document}
use Rattle.document_replies.specs.Searches.{documents_of}
use Rattle.job_commands.specs.Answers.{start_over}
use Rattle.job_commands.proofs.Answering.{over_takes}
use Rattle.job_commands.proofs.answer.answer_to.Goals as goal

pub answer_to_bound-requires : goal.answer_to_bound-requires
answer_to_bound-requires c =
    let documents = documents_of c.args.job.now.context in
    let start = start_view c.in-Ok.bound in
    let bound : start_over documents c.args.number ≡ Ok start =
    subst (λ (d : Data). bound_document documents.kind documents.fields documents.params documents.room d ≡ Ok start) c.in_ok-document.ensures c.in-Ok.ensures in
    c.requires c.in-Ok.bound.args (over_takes documents c.args.number start bound)
