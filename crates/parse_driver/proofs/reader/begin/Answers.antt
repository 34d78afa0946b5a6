use Rattle.std.proofs.Common.{arith}
use Rattle.parse_tables.specs.Names.{form_of}
use Rattle.parse_driver.proofs.Frames.{too_deep, begins}
use Rattle.parse_driver.proofs.Counts.{begun}
use Rattle.parse_driver.proofs.reader.begin.Goals as goal

pub returns-then-levels-eq0-clause-read : goal.returns-then-levels-eq0-clause-read
returns-then-levels-eq0-clause-read c = λ below next waits other. too_deep c.args.levels (form_of c.args.form) c.args.tokens.now next c.if-levels-eq0.true

pub returns-clause-read : goal.returns-clause-read
returns-clause-read c = λ below next waits. rw c.in_ok-push.ensures (begins c.args.levels (form_of c.args.form) c.args.tokens.now next c.args.control.now below c.choose-rule.result c.peek.result c.look.result (omega (arith, c.if-levels-eq0.false)) c.peek.ensures (rw c.scan.ensures at c.look.ensures) c.choose-rule.ensures waits)

pub returns-clause-less : goal.returns-clause-less
returns-clause-less c = λ most. rw c.in_ok-push.ensures (begun most c.args.levels c.args.control.now c.choose-rule.result (omega (arith, c.if-levels-eq0.false)))
