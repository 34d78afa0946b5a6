use Rattle.std.proofs.Common.{ap}
use Rattle.machine.specs.Rows.{collected}
use Rattle.machine.proofs.Calling.{as_well}
use Rattle.machine.specs.Seen.{with_stack, world_of, codes_in, limits_in}
use Rattle.machine.proofs.container_rows.collect_values.Goals as goal

pub returns-in-List-clause-exact : goal.returns-in-List-clause-exact
returns-in-List-clause-exact c = λ stack.
    as_well _ _ _ _
    (ap (λ kind. collected (codes_in c.args.executable.now) (limits_in c.args.executable.now c.args.limits.now) kind c.args.values (with_stack c.args.run.now.frames.top stack) c.args.run.now.frames.below (world_of c.args.run.now.world) c.args.run.now.frames.top.stack) c.in-List.is)
    (c.answered_whole.ensures.exact _ _ stack (rw (← c.as_slice.ensures) c.list_made-answer.ensures.does))

pub returns-clause-exact : goal.returns-clause-exact
returns-clause-exact c = λ stack.
    as_well _ _ _ _
    (ap (λ kind. collected (codes_in c.args.executable.now) (limits_in c.args.executable.now c.args.limits.now) kind c.args.values (with_stack c.args.run.now.frames.top stack) c.args.run.now.frames.below (world_of c.args.run.now.world) c.args.run.now.frames.top.stack) c.in-Map.is)
    (c.answered_whole-in-Map.ensures.exact _ _ stack (rw (← c.as_slice-in-Map.ensures) c.map_made-answer.ensures.does))
