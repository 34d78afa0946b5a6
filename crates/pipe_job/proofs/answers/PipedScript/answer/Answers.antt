-- What a document is bound to is a start of its line.
use Rattle.std.proofs.Common.{ap, sym, ◌∙◌}
use Rattle.serde_json.specs.Data.{Data}
use Rattle.serde_json.specs.View.{view}
use Rattle.json_bridge.specs.Starts.{start_view}
use Rattle.ingest_pipe.specs.Documents.{doc_view}
use Rattle.write_ctx.specs.Lines.{bound_document}
use Rattle.pipe_job.proofs.answers.PipedScript.answer.Goals as goal

pub answer_to_bound-requires : goal.answer_to_bound-requires
answer_to_bound-requires g c =
    c.requires (doc_view c.args.doc.now) (start_view c.in-Ok.bound)
    (ap (λ (d : Data). bound_document c.args.self.now.kind (view c.args.self.now.params.json) c.args.room d) (sym c.in_ok-line.ensures) ∙ c.in-Ok.ensures)
