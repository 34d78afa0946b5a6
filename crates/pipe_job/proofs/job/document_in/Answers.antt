use Rattle.pipe_job.proofs.Telling.{document_by}
use Rattle.pipe_job.proofs.job.document_in.Goals as goal

pub returns : goal.returns
returns c = document_by c.args.line.now c.document_read.result c.document_read.ensures.text c.document_read.ensures.bytes
