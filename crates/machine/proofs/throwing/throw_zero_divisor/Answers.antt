use Rattle.std.proofs.Common.{◌≡◌, Some, ap, sym, subst}
use Rattle.pl_types.specs.declared.classes.TheConstants.{ARITHMETIC_EXCEPTION}
use Rattle.object_heap.specs.Effects.{Effect, Answers, throws}
use Rattle.number_ops.specs.Outcomes.{effect, says, zero_divisor}
use Rattle.machine.proofs.throwing.throw_zero_divisor.Goals as goal

pub returns-in-Ok-clause-exact : goal.returns-in-Ok-clause-exact
unfolding says
returns-in-Ok-clause-exact c =
    let heap = c.args.run.now.world.heap in
    let told : effect heap zero_divisor ≡ throws heap ARITHMETIC_EXCEPTION (Some c.in-Ok.message) = ap (λ message. throws heap ARITHMETIC_EXCEPTION (Some message)) (sym c.in-Ok.ensures) in
    c.answered.ensures.exact (effect heap zero_divisor) heap c.args.run.now.frames.top.stack
    (subst (λ (e : Effect). Answers e heap c.throw-answer.new.heap c.throw-answer.result) (sym told) c.throw-answer.ensures)
