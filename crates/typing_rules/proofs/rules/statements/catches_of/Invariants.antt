use Rattle.std.proofs.Common.{◌≡◌, ◌++◌, map, reverse, length}
use Rattle.typing_rules.specs.Rules.Statements.{catch_of}
use Rattle.typing_rules.proofs.rules.statements.catches_of.Given as goal

-- the catches so far, and those that are left
abbrev pub invariant-loop-one : goal.invariant-loop-one
invariant-loop-one l = map catch_of l.fn.catches.items ≡ l.all ++ map catch_of (reverse l.catches.items)

abbrev pub decreases-loop-one : goal.decreases-loop-one
decreases-loop-one l = length l.catches.items
