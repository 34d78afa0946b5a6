use Rattle.job_tests.proofs.talks.KindsTalker.end.Goals as goal

pub returns : goal.returns
returns c = λ lines heard. c.nothing.ensures
