use Rattle.codegen.proofs.Back.{bind_back}
use Rattle.codegen.proofs.Free.{bound_one}
use Rattle.codegen.proofs.step.bind.Goals as goal

pub returns-clause-back : goal.returns-clause-back
returns-clause-back c = bind_back _ _ c.args.config.now c.args.label c.in_ok-line.line _ c.in_ok-line.ensures.number c.in_ok-bind.ensures.free c.in_ok-bind.ensures.labels

pub returns-clause-sound : goal.returns-clause-sound
returns-clause-sound c = record { by = λ allow s. record { result = s.result; representation = s.representation; agree = s.agree; free = bound_one _ _ c.args.label _ _ c.in_ok-bind.ensures.labels s.free } }
