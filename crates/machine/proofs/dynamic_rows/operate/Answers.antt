use Rattle.std.proofs.Common.{Bool, if◌then◌else◌, sym, ap, ◌∙◌}
use Rattle.number_ops.specs.Operators.{operate}
use Rattle.number_ops.specs.Outcomes.{effect}
use Rattle.run_state.specs.World.{acts_in}
use Rattle.code_meaning.specs.declared.word.Word.TheVariants.{R}
use Rattle.code_meaning.specs.Machine.{on_outcome}
use Rattle.code_meaning.specs.Words.{unboxed}
use Rattle.machine.proofs.Calling.{as_well}
use Rattle.machine.specs.Seen.{with_stack, world_of, codes_in, limits_in}
use Rattle.machine.proofs.dynamic_rows.operate.Goals as goal

pub returns-then-compares-clause-exact : goal.returns-then-compares-clause-exact
returns-then-compares-clause-exact c = λ stack.
    as_well _ _ _ _
    (ap (λ (compares : Bool). on_outcome (codes_in c.args.executable.now) (limits_in c.args.executable.now c.args.limits.now) (acts_in (world_of c.args.run.now.world) (effect c.args.run.now.world.heap (operate c.args.run.now.world.heap.objects c.args.op c.args.a.now c.args.b.now))) (λ value. if compares then unboxed value else R value)
    (with_stack c.args.run.now.frames.top stack) c.args.run.now.frames.below (world_of c.args.run.now.world) c.args.run.now.frames.top.stack) (sym c.compares.ensures ∙ c.if-compares.true))
    (c.answered.ensures.exact _ _ stack c.def_op-answer.ensures.exact)

pub returns-else-compares-clause-exact : goal.returns-else-compares-clause-exact
returns-else-compares-clause-exact c = λ stack.
    as_well _ _ _ _
    (ap (λ (compares : Bool). on_outcome (codes_in c.args.executable.now) (limits_in c.args.executable.now c.args.limits.now) (acts_in (world_of c.args.run.now.world) (effect c.args.run.now.world.heap (operate c.args.run.now.world.heap.objects c.args.op c.args.a.now c.args.b.now))) (λ value. if compares then unboxed value else R value)
    (with_stack c.args.run.now.frames.top stack) c.args.run.now.frames.below (world_of c.args.run.now.world) c.args.run.now.frames.top.stack) (sym c.compares.ensures ∙ c.if-compares.false))
    (c.answered_whole.ensures.exact _ _ stack c.def_op-answer.ensures.exact)
