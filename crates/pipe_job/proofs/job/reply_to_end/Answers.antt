use Rattle.serde_json.specs.View.{view}
use Rattle.pipe_job.specs.Lines.{made_in}
use Rattle.pipe_job.proofs.Telling.{end_told}
use Rattle.pipe_job.proofs.job.reply_to_end.Goals as goal

pub returns : goal.returns
returns c =
    end_told c.shown.result c.args.steps (view c.in_ok-told.told) (view c.in_ok-reply.reply) (made_in c.args.end) c.in_ok-told.ensures c.in_ok-reply.ensures.reply c.shown.ensures
