use Rattle.pl_types.specs.Host.{no_host}
use Rattle.def_access.specs.Members.{does}
use Rattle.machine.proofs.Accessing.{of_put}
use Rattle.machine.specs.Seen.{with_stack, world_of, codes_in, limits_in}
use Rattle.machine.proofs.access_rows.act_put.Goals as goal

pub returns-in-Some-clause-exact : goal.returns-in-Some-clause-exact
returns-in-Some-clause-exact c = λ stack.
    of_put (codes_in c.args.executable.now) (limits_in c.args.executable.now c.args.limits.now) (does no_host c.args.number c.args.values.now c.args.run.now.world.heap) c.in-Some.answer c.args.run.now.world.heap c.call.new.heap
    (with_stack c.args.run.now.frames.top stack) c.args.run.now.frames.below (world_of c.args.run.now.world) c.args.run.now.frames.top.stack _ _ c.in-Some.ensures.does
    (λ effect h. c.answered_done.ensures.exact effect c.args.run.now.world.heap stack h)
