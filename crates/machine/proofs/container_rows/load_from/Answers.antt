use Rattle.std.proofs.Common.{to_z-of_z}
use Rattle.run_state.specs.World.{acts_in}
use Rattle.def_access.specs.Elements.{element_read}
use Rattle.code_meaning.specs.Machine.{on_outcome}
use Rattle.code_meaning.specs.Members.{given_as}
use Rattle.machine.proofs.Calling.{as_well}
use Rattle.machine.proofs.Rows.{of_reference}
use Rattle.machine.specs.Seen.{with_stack, world_of, codes_in, limits_in}
use Rattle.machine.proofs.container_rows.load_from.Goals as goal

pub returns-in-R-clause-exact : goal.returns-in-R-clause-exact
returns-in-R-clause-exact c = λ stack.
    as_well _ _ _ _
    (of_reference c.args.array.now c.in-R.array c.in-R.is (λ array.
    on_outcome (codes_in c.args.executable.now) (limits_in c.args.executable.now c.args.limits.now) (acts_in (world_of c.args.run.now.world) (element_read c.args.run.now.world.heap c.args.of.now array c.args.at)) (given_as c.args.of.now)
    (with_stack c.args.run.now.frames.top stack) c.args.run.now.frames.below (world_of c.args.run.now.world) c.args.run.now.frames.top.stack))
    (c.answered_as.ensures.exact _ _ stack (rw (to_z-of_z c.ranges.at) at c.element_read-answer.ensures.does))
