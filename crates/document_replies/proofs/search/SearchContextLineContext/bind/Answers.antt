-- What a line is bound to.
use Rattle.std.proofs.Common.{Ok, Err}
use Rattle.document_replies.specs.Searches.{documents_of}
use Rattle.document_replies.proofs.Starts.{answered_start}
use Rattle.document_replies.proofs.search.SearchContextLineContext.bind.Goals as goal

pub returns-in-Ok : goal.returns-in-Ok
returns-in-Ok c = (answered_start (documents_of c.args.self.now) c.args.line.now (Ok c.in-Ok.bound) c.in-Ok.ensures.text c.in-Ok.ensures.bytes, tt)

pub returns-in-Err : goal.returns-in-Err
returns-in-Err c = answered_start (documents_of c.args.self.now) c.args.line.now (Err c.in-Err.error) c.in-Err.ensures.text c.in-Err.ensures.bytes
