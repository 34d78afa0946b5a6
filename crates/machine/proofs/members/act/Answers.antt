use Rattle.pl_types.specs.Host.{no_host}
use Rattle.def_access.specs.Members.{does}
use Rattle.machine.specs.Seen.{with_stack, world_of, codes_in, limits_in}
use Rattle.machine.proofs.Given.{of_act}
use Rattle.machine.proofs.members.act.Goals as goal

pub returns-in-Some-clause-exact : goal.returns-in-Some-clause-exact
returns-in-Some-clause-exact c = λ stack.
    rw (← c.as_slice.ensures)
    (of_act (codes_in c.args.executable.now) (limits_in c.args.executable.now c.args.limits.now) (does no_host c.args.number c.as_slice.result.now c.args.run.now.world.heap) c.in-Some.answer c.args.run.now.world.heap c.call.new.heap c.args.called.now
    (with_stack c.args.run.now.frames.top stack) c.args.run.now.frames.below (world_of c.args.run.now.world) c.args.run.now.frames.top.stack _ _ c.in-Some.ensures.does
    (λ effect h. c.answered_as.ensures.exact effect c.args.run.now.world.heap stack h))
