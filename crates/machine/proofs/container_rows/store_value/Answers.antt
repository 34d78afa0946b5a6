use mir.Syntax.{w32}
use mir.Val.{SFits}
use Rattle.std.proofs.Common.{rules, to_z-of_z}
use Rattle.run_state.specs.World.{acts_in}
use Rattle.def_access.specs.Elements.{element_written}
use Rattle.code_meaning.specs.Machine.{on_done}
use Rattle.machine.proofs.Rows.{from_place}
use Rattle.machine.specs.Seen.{with_stack, world_of, codes_in, limits_in}
use Rattle.machine.proofs.container_rows.store_value.Goals as goal

pub returns-in-Some-pop-clause-exact : goal.returns-in-Some-pop-clause-exact
returns-in-Some-pop-clause-exact c = λ stack.
    let fits : SFits w32 c.in-Some.at = search rules in
    from_place c.args.run.now.frames c.pop_int.new.frames c.pop.new.self c.in-Some.at c.in-Some-pop.array c.in-Some.ensures.stack c.in-Some-pop.ensures.stack c.pop_int.ensures.only.0 c.pop.ensures.top c.pop_int.ensures.only.1 c.pop.ensures.below
    (λ at array f below rest. on_done (codes_in c.args.executable.now) (limits_in c.args.executable.now c.args.limits.now) (acts_in (world_of c.args.run.now.world) (element_written c.args.run.now.world.heap c.args.of.now array at c.args.value)) (with_stack f stack) below (world_of c.args.run.now.world) rest) _ _
    (rw (to_z-of_z fits) at (c.store_in.ensures.exact stack))
