use Rattle.std.proofs.Common.{◌≡◌, ◌≤◌, ◌-◌}
use Rattle.typing_rules.specs.Rules.Types.{arrays}
use Rattle.typing_rules.proofs.rules.types.arrays.Given as goal

-- so many dimensions are made
abbrev pub invariant-loop-made : goal.invariant-loop-made
invariant-loop-made l = (l.arrays ≡ arrays l.made l.fn.of) × (l.made ≤ l.dimensions)

abbrev pub decreases-loop-made : goal.decreases-loop-made
decreases-loop-made l = l.dimensions - l.made
