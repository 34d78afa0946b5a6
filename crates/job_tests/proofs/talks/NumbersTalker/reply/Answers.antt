use Rattle.outer_io.specs.Lines.{Within}
use Rattle.job_tests.proofs.Talking.{numbers_hears}
use Rattle.job_tests.proofs.talks.NumbersTalker.reply.Goals as goal

pub returns : goal.returns
returns c = numbers_hears c.args.state.now c.following-count.result (Within c.args._line.now) c.number_line.result c.following-count.ensures c.number_line.ensures
