use Rattle.std.proofs.Common.{if◌then◌else◌}
use Rattle.number_ops.specs.Operators.{is_unary}
use Rattle.code_meaning.specs.Machine.{on_operated, on_reference, on_top}
use Rattle.machine.proofs.Calling.{as_well}
use Rattle.machine.proofs.Rows.{of_reference}
use Rattle.machine.specs.Seen.{with_stack, world_of, codes_in, limits_in}
use Rattle.machine.proofs.dynamic_rows.operate_word.Goals as goal

pub returns-in-R-clause-exact : goal.returns-in-R-clause-exact
returns-in-R-clause-exact c = λ stack.
    as_well _ _ _ _
    (of_reference c.args.upper.now c.in-R.b c.in-R.is (λ b.
    if is_unary c.args.op then on_operated (codes_in c.args.executable.now) (limits_in c.args.executable.now c.args.limits.now) c.args.op b b (with_stack c.args.run.now.frames.top stack) c.args.run.now.frames.below (world_of c.args.run.now.world) c.args.run.now.frames.top.stack
    else on_top c.args.run.now.frames.top.stack (λ lower rest. on_reference lower (λ a. on_operated (codes_in c.args.executable.now) (limits_in c.args.executable.now c.args.limits.now) c.args.op a b (with_stack c.args.run.now.frames.top stack) c.args.run.now.frames.below (world_of c.args.run.now.world) rest))))
    (c.operate_value.ensures.exact stack)
