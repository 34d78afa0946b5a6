use Rattle.std.proofs.Common.{◌≡◌, ◌++◌, drop, map}
use Rattle.typing_functions.specs.Bodies.{untyped}
use Rattle.typing_functions.proofs.bodies.all_untyped.Given as goal

-- the names so far, and those that are left
abbrev pub invariant-loop-x : goal.invariant-loop-x
invariant-loop-x l = map untyped l.names ≡ l.all ++ map untyped (drop l.x-index l.names)
