use Rattle.line_run.specs.Shown.{reply_shown}
use Rattle.line_run.specs.Talking.{Ends}
use Rattle.line_run.proofs.Lists.{adds_so}
use Rattle.line_run.proofs.replies.Replies.add_end.Goals as goal

pub returns : goal.returns
returns g c =
    adds_so (Ends (g.T.Talker.talk c.args.talker.now) (g.T.Talker.heard c.args.talker.now c.args.state)) c.args.self.now c.push.new.self (reply_shown c.in_ok-reply.reply) c.push.result
    c.in_ok-reply.ensures c.push.ensures.bytes c.push.ensures.error c.push.ensures.steps
