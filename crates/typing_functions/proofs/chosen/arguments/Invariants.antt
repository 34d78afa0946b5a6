use Rattle.std.proofs.Common.{◌≡◌, ◌++◌, drop}
use Rattle.typing_functions.specs.Chosen.{arguments}
use Rattle.typing_functions.proofs.chosen.arguments.Given as goal

-- the arguments so far, and those that are left
abbrev pub invariant-loop-x : goal.invariant-loop-x
invariant-loop-x l = l.fn.given.items ++ arguments l.fn.at l.fn.names ≡ l.given.items ++ arguments l.fn.at (drop l.x-index l.names)
