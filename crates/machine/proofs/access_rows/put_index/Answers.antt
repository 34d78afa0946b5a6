use Rattle.def_access.specs.Access.{index_written}
use Rattle.code_meaning.specs.Machine.{on_write}
use Rattle.machine.proofs.Rows.{from_triple}
use Rattle.machine.specs.Seen.{world_of, codes_in, limits_in, text_of}
use Rattle.machine.proofs.access_rows.put_index.Goals as goal

pub returns-in-Some-pop-2-clause-exact : goal.returns-in-Some-pop-2-clause-exact
returns-in-Some-pop-2-clause-exact c =
    from_triple c.args.run.now.frames c.pop.new.self c.pop-in-Some.new.self c.pop-in-Some-pop.new.self c.in-Some-pop-2.first c.in-Some-pop.second c.in-Some.third c.in-Some.ensures.stack c.in-Some-pop.ensures.stack c.in-Some-pop-2.ensures.stack
    c.pop.ensures.top c.pop-in-Some.ensures.top c.pop-in-Some-pop.ensures.top c.pop.ensures.below c.pop-in-Some.ensures.below c.pop-in-Some-pop.ensures.below
    (λ receiver index value f below stack. on_write (codes_in c.args.executable.now) (limits_in c.args.executable.now c.args.limits.now) (index_written (text_of c.args.executable.now f.text).allow c.args.run.now.world.heap receiver index value) f below (world_of c.args.run.now.world) stack) _ _
    (c.put_index_words.ensures.exact c.args.run.now.frames.top.stack)
