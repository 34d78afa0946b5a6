use Rattle.def_access.specs.Access.{name_written}
use Rattle.code_meaning.specs.Machine.{on_write}
use Rattle.machine.proofs.Rows.{from_pair}
use Rattle.machine.specs.Seen.{world_of, codes_in, limits_in, text_of}
use Rattle.machine.proofs.access_rows.put_name.Goals as goal

pub returns-in-Some-pop-clause-exact : goal.returns-in-Some-pop-clause-exact
returns-in-Some-pop-clause-exact c =
    from_pair c.args.run.now.frames c.pop.new.self c.pop-in-Some.new.self c.in-Some.upper c.in-Some-pop.lower c.in-Some.ensures.stack c.in-Some-pop.ensures.stack
    c.pop.ensures.top c.pop-in-Some.ensures.top c.pop.ensures.below c.pop-in-Some.ensures.below (λ receiver value f below stack. on_write (codes_in c.args.executable.now) (limits_in c.args.executable.now c.args.limits.now) (name_written (text_of c.args.executable.now f.text).allow c.args.run.now.world.heap receiver c.args.name.now value) f below (world_of c.args.run.now.world) stack) _ _
    (c.put_name_words.ensures.exact c.args.run.now.frames.top.stack)
