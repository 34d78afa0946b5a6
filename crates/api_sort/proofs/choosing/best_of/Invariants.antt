use Rattle.std.proofs.Common.{◌≡◌, drop}
use Rattle.container_values.specs.Elements.{values_of}
use Rattle.api_sort.specs.Choosing as spec
use Rattle.api_sort.proofs.choosing.best_of.Given as goal

-- the best of all is the best of the best so far and of those that are left
abbrev pub invariant-loop-at : goal.invariant-loop-at
invariant-loop-at l = spec.best_of l.which l.first (drop 1 (values_of l.heap.objects l.container)) ≡ spec.best_of l.which l.best (drop l.at (values_of l.heap.objects l.container))
