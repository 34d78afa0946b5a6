use Rattle.std.proofs.Common.{[]}
use Rattle.code_meaning.specs.Machine.{take_words}
use Rattle.machine.specs.Seen.{world_of}
use Rattle.machine_paths.proofs.Entered.{entered}
use Rattle.machine.proofs.calls.push_frame.Goals as goal

pub returns-in-Ok-clause-exact : goal.returns-in-Ok-clause-exact
returns-in-Ok-clause-exact c =
    rw (← c.len.ensures, ← c.as_slice.ensures)
    (entered (take_words c.len.result c.args.run.now.frames.top.stack []) c.args.number c.as_slice.result.now c.args.run.now.frames.top c.args.run.now.frames.below _ _ (world_of c.args.run.now.world)
    c.in-Ok.ensures.frame)
