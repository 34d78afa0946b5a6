use Rattle.std.proofs.Common.{◌≡◌, ◌++◌, drop}
use Rattle.container_values.specs.Elements.{values_of}
use Rattle.container_values.proofs.taking.values.Given as goal

-- what is copied, and behind it what is left, are the values
abbrev pub invariant-loop-at : goal.invariant-loop-at
invariant-loop-at l = l.copy ++ drop l.at (values_of l.heap.objects l.container) ≡ values_of l.heap.objects l.container
