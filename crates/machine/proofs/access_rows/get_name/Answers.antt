use Rattle.def_access.specs.Access.{name_read}
use Rattle.code_meaning.specs.Machine.{on_access, on_reference}
use Rattle.machine.proofs.Rows.{from_top}
use Rattle.machine.specs.Seen.{world_of, codes_in, limits_in, text_of}
use Rattle.machine.proofs.access_rows.get_name.Goals as goal

pub returns-in-Some-clause-exact : goal.returns-in-Some-clause-exact
returns-in-Some-clause-exact c =
    from_top c.args.run.now.frames c.pop.new.self c.in-Some.word c.in-Some.ensures.stack c.pop.ensures.top c.pop.ensures.below
    (λ word f below stack. on_reference word (λ receiver. on_access (codes_in c.args.executable.now) (limits_in c.args.executable.now c.args.limits.now) (name_read (text_of c.args.executable.now f.text).allow c.args.run.now.world.heap receiver c.args.name.now) f below (world_of c.args.run.now.world) stack)) _ _
    (c.get_name_word.ensures.exact c.args.run.now.frames.top.stack)
