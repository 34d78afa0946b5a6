use Rattle.code_meaning.specs.Machine.{on_reference}
use Rattle.machine.specs.Rows.{asked}
use Rattle.machine.proofs.Rows.{from_top}
use Rattle.machine.specs.Seen.{world_of, codes_in, limits_in}
use Rattle.machine.proofs.container_rows.ask.Goals as goal

pub returns-in-Some-clause-exact : goal.returns-in-Some-clause-exact
returns-in-Some-clause-exact c =
    from_top c.args.run.now.frames c.pop.new.self c.in-Some.word c.in-Some.ensures.stack c.pop.ensures.top c.pop.ensures.below
    (λ word f below stack. on_reference word (λ value. asked (codes_in c.args.executable.now) (limits_in c.args.executable.now c.args.limits.now) c.args.kind value f below (world_of c.args.run.now.world) stack)) _ _
    (c.ask_word.ensures.exact c.args.run.now.frames.top.stack)
