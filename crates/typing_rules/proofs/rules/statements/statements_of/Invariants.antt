use Rattle.std.proofs.Common.{◌≡◌, ◌++◌, reverse, length}
use Rattle.typing_rules.specs.Rules.Statements.{statements_of}
use Rattle.typing_rules.proofs.rules.statements.statements_of.Given as goal

-- the statements so far, and those that are left
abbrev pub invariant-loop-step : goal.invariant-loop-step
invariant-loop-step l = statements_of l.fn.steps.items ≡ l.all ++ statements_of (reverse l.steps.items)

abbrev pub decreases-loop-step : goal.decreases-loop-step
decreases-loop-step l = length l.steps.items
