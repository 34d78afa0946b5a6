use Rattle.line_run.proofs.stateless.StatelessTalker.end.Goals as goal

pub returns : goal.returns
returns g c = λ lines heard. c.nothing.ensures
