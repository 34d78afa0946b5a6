use Rattle.pl_types.specs.declared.ty.Ty.TheVariants as ty
use Rattle.number_ops.specs.Outcomes.{effect}
use Rattle.number_ops.specs.Casts.{cast_at_run_time}
use Rattle.run_state.specs.World.{acts_in}
use Rattle.code_meaning.specs.Words.{unboxed}
use Rattle.code_meaning.specs.Machine.{on_outcome, is_written}
use Rattle.machine.specs.Seen.{with_stack, world_of, codes_in, limits_in}
use Rattle.machine.proofs.Calling.{as_well}
use Rattle.machine.proofs.Rows.{of_reference}
use Rattle.machine.proofs.boxes.unbox_word.Goals as goal

pub returns-in-R-clause-exact : goal.returns-in-R-clause-exact
returns-in-R-clause-exact c = λ stack.
    as_well _ _ _ _
    (of_reference c.args.word.now c.in-R.value c.in-R.is (λ value.
    on_outcome (codes_in c.args.executable.now) (limits_in c.args.executable.now c.args.limits.now)
    (acts_in (world_of c.args.run.now.world) (effect c.args.run.now.world.heap (cast_at_run_time c.args.run.now.world.heap.objects value (ty.Prim c.args.primitive) (is_written c.args.way))))
    unboxed (with_stack c.args.run.now.frames.top stack) c.args.run.now.frames.below (world_of c.args.run.now.world) c.args.run.now.frames.top.stack))
    (c.answered.ensures.exact _ _ stack c.cast-answer.ensures.exact)
