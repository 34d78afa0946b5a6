use Rattle.std.proofs.Common.{ap}
use Rattle.machine.specs.Seen.{with_stack, world_of, codes_in, limits_in}
use Rattle.machine.specs.Rows.{paired}
use Rattle.machine.proofs.Calling.{as_well}
use Rattle.machine.proofs.references.pair_values.Goals as goal

pub returns-in-Equal-clause-exact : goal.returns-in-Equal-clause-exact
returns-in-Equal-clause-exact c = λ stack.
    as_well _ _ _ _
    (ap (λ kind. paired (codes_in c.args.executable.now) (limits_in c.args.executable.now c.args.limits.now) kind c.args.a.now c.args.b.now (with_stack c.args.run.now.frames.top stack) c.args.run.now.frames.below (world_of c.args.run.now.world) c.args.run.now.frames.top.stack) c.in-Equal.is)
    (c.answered.ensures.exact _ _ stack c.equal-answer.ensures.exact)
