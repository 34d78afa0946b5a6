use Rattle.outer_io.specs.Lines.{Beyond}
use Rattle.line_run.proofs.Alone.{hears_alone}
use Rattle.line_run.proofs.stateless.StatelessTalker.reply_to_long.Goals as goal

pub returns : goal.returns
returns g c = hears_alone (g.R.Replier.gives c.args.self.now.replier) Beyond c.reply_to_long.result c.reply_to_long.ensures
