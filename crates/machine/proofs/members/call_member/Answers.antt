use Rattle.code_meaning.specs.Machine.{on_received}
use Rattle.code_meaning.specs.Members.{count_of, received}
use Rattle.machine.specs.Seen.{world_of, codes_in, limits_in}
use Rattle.machine.proofs.Taking.{from_words}
use Rattle.machine.proofs.members.call_member.Goals as goal

pub returns-in-Ok-true-clause-exact : goal.returns-in-Ok-true-clause-exact
returns-in-Ok-true-clause-exact c =
    from_words (count_of c.args.called.now) c.args.run.now.frames c.words_of.new.frames c.words_of.new.taken.items (rw c.in-Ok-true.field-0-test at c.in-Ok-true.ensures.words) c.in-Ok-true.ensures.top c.in-Ok-true.ensures.below
    (λ words f below stack. on_received (codes_in c.args.executable.now) (limits_in c.args.executable.now c.args.limits.now) (received c.args.called.now words) c.args.number c.args.called.now f below (world_of c.args.run.now.world) stack) _ _
    (c.call_with.ensures.exact c.args.run.now.frames.top.stack)
