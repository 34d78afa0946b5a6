use Rattle.outer_io.specs.Lines.{Beyond}
use Rattle.job_tests.proofs.Talking.{numbers_hears}
use Rattle.job_tests.proofs.talks.NumbersTalker.reply_to_long.Goals as goal

pub returns : goal.returns
returns c = numbers_hears c.args.state.now c.following-count.result Beyond c.number_line.result c.following-count.ensures c.number_line.ensures
