use Rattle.std.proofs.Common.{◌≡◌, drop}
use Rattle.typing_functions.specs.Bodies.{openings}
use Rattle.typing_functions.proofs.bodies.openings.Given as goal

-- the casts so far stand before the others
abbrev pub invariant-loop-x : goal.invariant-loop-x
invariant-loop-x l = openings l.fn.at l.fn.names l.fn.before ≡ openings l.fn.at (drop l.x-index l.names) l.body
