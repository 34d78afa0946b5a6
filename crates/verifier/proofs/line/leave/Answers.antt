use Rattle.std.proofs.lemmas.Result.{IfOk-weaker}
use Rattle.verifier.specs.Acts.{at_line}
use Rattle.verifier.proofs.Lines.{call_does}
use Rattle.verifier.proofs.line.leave.Goals as goal

pub returns-in-Some : goal.returns-in-Some
returns-in-Some c =
    IfOk-weaker c.call.result _ _
    (λ fits does. call_does c.args.allow.now c.args.functions.now c.args.function.now c.args.instruction.now c.in-Some.number (at_line c.args.table.now c.args.line) c.args.table.now c.stand.new.self c.call.new.table fits
    c.in-Some.ensures c.if-not-stand.ensures.stack c.if-not-stand.ensures.lines does)
    c.call.ensures
