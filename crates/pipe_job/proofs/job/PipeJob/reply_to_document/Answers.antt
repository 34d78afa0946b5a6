-- The reply is told of what the pipeline makes of the document, by each meaning of its scripts.
use Rattle.std.proofs.Common.{List, refl, sym, subst}
use Rattle.ingest_pipe.specs.Documents.{doc_view}
use Rattle.ingest_pipe.specs.Running.{Meaning}
use Rattle.pipe_job.specs.declared.answers.PipedScript.{PipedScript}
use Rattle.pipe_job.specs.Code.{Mean}
use Rattle.pipe_job.proofs.Telling.{document_told}
use Rattle.pipe_job.proofs.job.PipeJob.reply_to_document.Goals as goal

pub returns : goal.returns
returns g c =
    let scripts = c.args.self.now.scripts.items in
    let room = c.args.self.now.room in
    document_told _ _ c.args.self.now.pipeline.processors (doc_view c.args.doc) _ c.run-end.new.runner refl
    (λ (m : Meaning). Mean {D = g.row.D.Denot} g.D.DocumentScript.ends scripts room m)
    (λ m has. subst (λ (xs : List (PipedScript g.row.D.Denot)). Mean {D = g.row.D.Denot} g.D.DocumentScript.ends xs room m) (sym c.as_slice.ensures.value) has) c.run-end.result c.run-end.ensures.ends
    c.reply_to_end.result c.reply_to_end.ensures
