use Rattle.std.proofs.Common.{suc, ◌<◌, ◌^◌, List, if◌then◌else◌, sym, subst}
use Rattle.number_ops.specs.arithmetic_declared.operator.Op.{Op}
use Rattle.number_ops.specs.Operators.{is_unary}
use Rattle.code_meaning.specs.declared.word.Word.{Word}
use Rattle.code_meaning.specs.Machine.{Frame, on_operated, on_reference, on_top}
use Rattle.machine.proofs.Rows.{from_top}
use Rattle.machine.specs.Seen.{world_of, codes_in, limits_in}
use Rattle.machine.specs.Sparing.{OperatorSpares}
use Rattle.machine.proofs.dynamic_rows.dynamic.Goals as goal

pub returns-in-Some-clause-exact : goal.returns-in-Some-clause-exact
returns-in-Some-clause-exact c =
    rw c.op_of_dynamic-op.ensures at
    (from_top c.args.run.now.frames c.pop.new.self c.in-Some.upper c.in-Some.ensures.stack c.pop.ensures.top c.pop.ensures.below
    (λ upper f below rest. on_reference upper (λ b. if is_unary c.op_of_dynamic-op.result then on_operated (codes_in c.args.executable.now) (limits_in c.args.executable.now c.args.limits.now) c.op_of_dynamic-op.result b b f below (world_of c.args.run.now.world) rest else on_top rest (λ lower stack. on_reference lower (λ a. on_operated (codes_in c.args.executable.now) (limits_in c.args.executable.now c.args.limits.now) c.op_of_dynamic-op.result a b f below (world_of c.args.run.now.world) stack)))) _ _
    (c.operate_word.ensures.exact c.args.run.now.frames.top.stack))

pub returns-in-Some-clause-memory : goal.returns-in-Some-clause-memory
returns-in-Some-clause-memory c = λ spares room next.
    let objects = c.args.run.now.world.heap.objects in
    c.operate_word.ensures.memory
    (subst (λ (stack : List Word). OperatorSpares c.op_of_dynamic-op.result stack objects) c.in-Some.ensures.stack (subst (λ (o : Op). OperatorSpares o c.args.run.now.frames.top.stack objects) (sym c.op_of_dynamic-op.ensures) spares))
    (c.in-Some.ensures.room room)
    (subst (λ (f : Frame). suc f.line < 2 ^ 64) (sym c.pop.ensures.top) next)
