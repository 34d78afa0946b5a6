use Rattle.job_tests.proofs.Talking.{long_hears}
use Rattle.job_tests.proofs.talks.KindsTalker.reply_to_long.Goals as goal

pub returns : goal.returns
returns c = long_hears c.args.state.now.short c.args.state.now.long c.following-count.result c.number_line.result c.following-count.ensures c.number_line.ensures
