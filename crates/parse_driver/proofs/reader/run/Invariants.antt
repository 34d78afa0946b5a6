use Rattle.std.proofs.Common.{◌≤◌, length}
use Rattle.parse_driver.specs.Control.{Whole, ComesTo, steps}
use Rattle.parse_driver.proofs.reader.run.Given as goal

abbrev pub invariant-loop-frame : goal.invariant-loop-frame
invariant-loop-frame g l = ((whole : Whole) → ComesTo l.fn.control (g.S.Actions.values l.fn.stack) l.fn.tokens whole → ComesTo l.control (g.S.Actions.values l.stack) l.tokens whole) × (length l.tokens ≤ length l.fn.tokens)

abbrev pub decreases-loop-frame : goal.decreases-loop-frame
decreases-loop-frame g l = steps (length l.fn.tokens) l.control
