use Rattle.std.proofs.Common.{◌≡◌, ◌++◌, drop}
use Rattle.typing_rules.proofs.rules.bodies.copied_names.Given as goal

-- the copies so far, and the names that are left
abbrev pub invariant-loop-n : goal.invariant-loop-n
invariant-loop-n l = l.names ≡ l.all ++ drop l.n-index l.names
