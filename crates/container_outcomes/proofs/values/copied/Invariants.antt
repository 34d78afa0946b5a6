use Rattle.std.proofs.Common.{◌≡◌, take}
use Rattle.container_outcomes.proofs.values.copied.Given as goal

-- those before the place are copied
abbrev pub invariant-loop-at : goal.invariant-loop-at
invariant-loop-at l = l.copy ≡ take l.at l.values
