use Rattle.outer_io.specs.Lines.{Within}
use Rattle.line_run.proofs.Alone.{hears_alone}
use Rattle.line_run.proofs.stateless.StatelessTalker.reply.Goals as goal

pub returns : goal.returns
returns g c = hears_alone (g.R.Replier.gives c.args.self.now.replier) (Within c.args.line.now) c.reply.result c.reply.ensures
