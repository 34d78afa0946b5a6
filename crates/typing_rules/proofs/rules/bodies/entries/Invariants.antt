use Rattle.std.proofs.Common.{◌≡◌, ◌++◌, drop}
use Rattle.typing_rules.specs.Rules.Functions.{entries}
use Rattle.typing_rules.proofs.rules.bodies.entries.Given as goal

-- the entries so far, and those that are left
abbrev pub invariant-loop-n : goal.invariant-loop-n
invariant-loop-n l = entries l.standing l.names ≡ l.scopes ++ entries l.standing (drop l.n-index l.names)
