use Rattle.std.proofs.Common.{suc, slice_set}
use Rattle.code_meaning.specs.Machine.{Goes}
use Rattle.machine.specs.Seen.{world_of}
use Rattle.machine.proofs.Rows.{from_top}
use Rattle.machine.proofs.jumps.store.Goals as goal

pub returns-in-Some-clause-exact : goal.returns-in-Some-clause-exact
returns-in-Some-clause-exact c =
    let w = world_of c.args.run.now.world in
    from_top c.args.run.now.frames c.pop.new.self c.in-Some.word c.in-Some.ensures.stack c.pop.ensures.top c.pop.ensures.below
    (λ word f below stack. Goes (record { top = record { text = f.text; fun = f.fun; line = suc f.line; locals = slice_set f.locals c.args.number word; stack = stack; turns = f.turns; due = f.due }; below = below; world = w })) _ _
    c.put.ensures.exact
