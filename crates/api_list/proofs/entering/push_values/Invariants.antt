use Rattle.std.proofs.Common.{◌≡◌, ◌++◌, drop}
use Rattle.api_list.proofs.entering.push_values.Given as goal

-- what has come, and behind it what is left, are all values
abbrev pub invariant-loop-at : goal.invariant-loop-at
invariant-loop-at l = l.all ++ drop l.at l.values ≡ l.initial.all ++ l.values
