use Rattle.machine.specs.Seen.{world_of, codes_in, limits_in}
use Rattle.machine.specs.Rows.{paired}
use Rattle.machine.proofs.Rows.{from_pair}
use Rattle.machine.proofs.references.pair.Goals as goal

pub returns-in-Some-pop-clause-exact : goal.returns-in-Some-pop-clause-exact
returns-in-Some-pop-clause-exact c =
    from_pair c.args.run.now.frames c.pop.new.self c.pop-in-Some.new.self c.in-Some.upper c.in-Some-pop.lower c.in-Some.ensures.stack c.in-Some-pop.ensures.stack
    c.pop.ensures.top c.pop-in-Some.ensures.top c.pop.ensures.below c.pop-in-Some.ensures.below (λ a b f below stack. paired (codes_in c.args.executable.now) (limits_in c.args.executable.now c.args.limits.now) c.args.kind a b f below (world_of c.args.run.now.world) stack) _ _
    (c.pair_words.ensures.exact c.args.run.now.frames.top.stack)
