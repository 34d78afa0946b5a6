use Rattle.job_tests.proofs.Talking.{numbers_ends}
use Rattle.job_tests.proofs.talks.NumbersTalker.end.Goals as goal

pub returns : goal.returns
returns c = numbers_ends c.args.state c.number_line.result c.number_line.ensures
