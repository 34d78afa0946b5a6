-- The line has the parts of the reply.
use Rattle.std.proofs.Common.{string_bytes}
use Rattle.document_replies.specs.Jobs.{context_of, ended_of}
use Rattle.document_replies.specs.Replies.{reply_data}
use Rattle.document_replies.proofs.Replied.{line_told}
use Rattle.document_replies.proofs.job.DocumentJob.reply_to_outcome.Goals as goal

pub returns : goal.returns
returns g c = λ from kept.
    let context = context_of (g.C.LineContext.start c.args.self.now.context) (g.C.LineContext.answer c.args.self.now.context) c.args.self.now.keys in
    line_told (string_bytes c.in_ok-line.line.text) c.in_ok-line.line.is_error c.args.outcome.now.steps (reply_data (g.D.DocumentScript.list c.args.self.now.script) context from (ended_of c.args.outcome.now)) (c.in_ok-line.ensures.text from kept)
    (c.in_ok-line.ensures.error from kept)
