use Rattle.job_tests.proofs.Talking.{short_hears}
use Rattle.job_tests.proofs.talks.KindsTalker.reply.Goals as goal

pub returns : goal.returns
returns c = short_hears c.args.state.now.short c.args.state.now.long c.following-count.result c.args._line.now c.number_line.result c.following-count.ensures c.number_line.ensures
