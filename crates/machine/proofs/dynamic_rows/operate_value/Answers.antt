use Rattle.std.proofs.Common.{Bool, if◌then◌else◌, sym, ap, ◌∙◌}
use Rattle.code_meaning.specs.Machine.{on_operated, on_reference, on_top}
use Rattle.machine.proofs.Calling.{as_well}
use Rattle.machine.specs.Seen.{with_stack, world_of, codes_in, limits_in}
use Rattle.machine.proofs.dynamic_rows.operate_value.Goals as goal

pub returns-else-is_unary-clause-exact : goal.returns-else-is_unary-clause-exact
returns-else-is_unary-clause-exact c = λ stack.
    as_well _ _ _ _
    (ap (λ (unary : Bool). if unary then on_operated (codes_in c.args.executable.now) (limits_in c.args.executable.now c.args.limits.now) c.args.op c.args.b.now c.args.b.now (with_stack c.args.run.now.frames.top stack) c.args.run.now.frames.below (world_of c.args.run.now.world) c.args.run.now.frames.top.stack
    else on_top c.args.run.now.frames.top.stack (λ lower rest. on_reference lower (λ a. on_operated (codes_in c.args.executable.now) (limits_in c.args.executable.now c.args.limits.now) c.args.op a c.args.b.now (with_stack c.args.run.now.frames.top stack) c.args.run.now.frames.below (world_of c.args.run.now.world) rest)))
    (sym c.is_unary.ensures ∙ c.if-is_unary.false))
    (c.operate_two.ensures.exact stack)
