use Rattle.code_meaning.specs.Machine.{on_operated, on_reference}
use Rattle.machine.proofs.Rows.{from_top}
use Rattle.machine.specs.Seen.{with_stack, world_of, codes_in, limits_in}
use Rattle.machine.proofs.dynamic_rows.operate_two.Goals as goal

pub returns-in-Some-clause-exact : goal.returns-in-Some-clause-exact
returns-in-Some-clause-exact c = λ stack.
    from_top c.args.run.now.frames c.pop.new.self c.in-Some.lower c.in-Some.ensures.stack c.pop.ensures.top c.pop.ensures.below
    (λ lower f below rest. on_reference lower (λ a. on_operated (codes_in c.args.executable.now) (limits_in c.args.executable.now c.args.limits.now) c.args.op a c.args.b.now (with_stack f stack) below (world_of c.args.run.now.world) rest)) _ _
    (c.operate_both.ensures.exact stack)
