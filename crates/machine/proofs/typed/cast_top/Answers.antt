use Rattle.number_ops.specs.Casts.{cast_at_run_time}
use Rattle.number_ops.specs.Outcomes.{effect}
use Rattle.run_state.specs.World.{acts_in}
use Rattle.code_meaning.specs.Machine.{on_outcome, on_reference, is_written}
use Rattle.machine.specs.Seen.{world_of, codes_in, limits_in}
use Rattle.code_meaning.specs.declared.word.Word.TheVariants.{R}
use Rattle.machine.proofs.Rows.{from_top}
use Rattle.machine.proofs.typed.cast_top.Goals as goal

pub returns-in-Some-clause-exact : goal.returns-in-Some-clause-exact
returns-in-Some-clause-exact c =
    from_top c.args.run.now.frames c.pop.new.self c.in-Some.word c.in-Some.ensures.stack c.pop.ensures.top c.pop.ensures.below
    (λ word f below stack. on_reference word (λ value. on_outcome (codes_in c.args.executable.now) (limits_in c.args.executable.now c.args.limits.now) (acts_in (world_of c.args.run.now.world) (effect c.args.run.now.world.heap (cast_at_run_time c.args.run.now.world.heap.objects value c.args.to.now (is_written c.args.way)))) R f below (world_of c.args.run.now.world) stack)) _ _
    (c.cast_word.ensures.exact c.args.run.now.frames.top.stack)
