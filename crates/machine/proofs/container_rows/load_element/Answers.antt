use mir.Syntax.{w32}
use mir.Val.{SFits}
use Rattle.std.proofs.Common.{rules, to_z-of_z}
use Rattle.run_state.specs.World.{acts_in}
use Rattle.def_access.specs.Elements.{element_read}
use Rattle.code_meaning.specs.Machine.{on_outcome}
use Rattle.code_meaning.specs.Members.{given_as}
use Rattle.machine.proofs.Rows.{from_place}
use Rattle.machine.specs.Seen.{world_of, codes_in, limits_in}
use Rattle.machine.proofs.container_rows.load_element.Goals as goal

pub returns-in-Some-pop-clause-exact : goal.returns-in-Some-pop-clause-exact
returns-in-Some-pop-clause-exact c =
    let fits : SFits w32 c.in-Some.at = search rules in
    from_place c.args.run.now.frames c.pop_int.new.frames c.pop.new.self c.in-Some.at c.in-Some-pop.array c.in-Some.ensures.stack c.in-Some-pop.ensures.stack c.pop_int.ensures.only.0 c.pop.ensures.top c.pop_int.ensures.only.1 c.pop.ensures.below
    (λ at array f below stack. on_outcome (codes_in c.args.executable.now) (limits_in c.args.executable.now c.args.limits.now) (acts_in (world_of c.args.run.now.world) (element_read c.args.run.now.world.heap c.args.of.now array at)) (given_as c.args.of.now) f below (world_of c.args.run.now.world) stack) _ _
    (rw (to_z-of_z fits) at (c.load_from.ensures.exact c.args.run.now.frames.top.stack))
