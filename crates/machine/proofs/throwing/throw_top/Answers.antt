use Rattle.number_ops.specs.Relations.{thrown}
use Rattle.run_state.specs.World.{acts_in}
use Rattle.code_meaning.specs.Machine.{on_reference, on_thrown}
use Rattle.machine.specs.Seen.{world_of, codes_in, limits_in}
use Rattle.machine.proofs.Rows.{from_top}
use Rattle.machine.proofs.throwing.throw_top.Goals as goal

pub returns-in-Some-clause-exact : goal.returns-in-Some-clause-exact
returns-in-Some-clause-exact c =
    from_top c.args.run.now.frames c.pop.new.self c.in-Some.word c.in-Some.ensures.stack c.pop.ensures.top c.pop.ensures.below
    (λ word f below stack. on_reference word (λ value. on_thrown (codes_in c.args.executable.now) (limits_in c.args.executable.now c.args.limits.now) (acts_in (world_of c.args.run.now.world) (thrown c.args.run.now.world.heap value)) f below (world_of c.args.run.now.world))) _ _
    (c.throw_word.ensures.exact c.args.run.now.frames.top.stack)
