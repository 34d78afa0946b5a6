-- The run is answered by what is kept of its start.
use Rattle.json_bridge.specs.Starts.{start_view}
use Rattle.document_replies.specs.Jobs.{by_start, context_of, ended_of}
use Rattle.document_replies.proofs.Replied.{ran_replied}
use Rattle.document_replies.proofs.job.DocumentJob.reply_to_bound.Goals as goal

pub returns : goal.returns
returns g c =
    let context = context_of (g.C.LineContext.start c.args.self.now.context) (g.C.LineContext.answer c.args.self.now.context) c.args.self.now.keys in
    ran_replied (g.D.DocumentScript.list c.args.self.now.script) context (g.C.LineContext.keeps c.args.self.now.context) (by_start (g.D.DocumentScript.ends c.args.self.now.script)) (start_view c.args.line.bound) c.args.line.kept
    (ended_of c.in_ok-outcome.outcome) c.reply_to_outcome.result c.requires.keeps c.in_ok-outcome.ensures.ends c.reply_to_outcome.ensures
