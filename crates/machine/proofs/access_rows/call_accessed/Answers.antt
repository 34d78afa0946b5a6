use Rattle.std.proofs.Common.{subst}
use Rattle.run_state.specs.World.{with_store}
use Rattle.def_access.specs.Coming.{ComesOn}
use Rattle.def_access.specs.declared.accessed.Accessed.{Accessed}
use Rattle.machine.proofs.Accessing.{of_acted}
use Rattle.machine.specs.Seen.{with_stack, world_of, codes_in, limits_in}
use Rattle.machine.proofs.access_rows.call_accessed.Goals as goal

pub returns-clause-exact : goal.returns-clause-exact
returns-clause-exact c = λ access old stack h.
    of_acted (codes_in c.args.executable.now) (limits_in c.args.executable.now c.args.limits.now) (with_stack c.args.run.now.frames.top stack) c.args.run.now.frames.below (with_store (world_of c.args.run.now.world) old) c.args.run.now.frames.top.stack _ _ access c.in-Acts.answer old c.args.run.now.world.heap
    (subst (λ (accessed : Accessed). ComesOn access old c.args.run.now.world.heap c.args.values.now accessed) c.in-Acts.is h)
    (λ effect k. c.answered_whole.ensures.exact effect old stack k)
