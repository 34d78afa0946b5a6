use Rattle.code_meaning.specs.Machine.{on_values}
use Rattle.code_meaning.specs.Members.{references_in}
use Rattle.machine.specs.Rows.{collected}
use Rattle.machine.proofs.Taking.{from_words}
use Rattle.machine.specs.Seen.{world_of, codes_in, limits_in}
use Rattle.machine.proofs.container_rows.collect.Goals as goal

pub returns-in-Ok-true-clause-exact : goal.returns-in-Ok-true-clause-exact
returns-in-Ok-true-clause-exact c =
    from_words c.args.count c.args.run.now.frames c.parts_off.new.frames c.parts_off.new.taken.items (rw c.in-Ok-true.field-0-test at c.in-Ok-true.ensures.words) c.in-Ok-true.ensures.top c.in-Ok-true.ensures.below
    (λ words f below stack. on_values (references_in words) (λ values. collected (codes_in c.args.executable.now) (limits_in c.args.executable.now c.args.limits.now) c.args.kind values f below (world_of c.args.run.now.world) stack)) _ _
    (c.collect_words.ensures.exact c.args.run.now.frames.top.stack)
