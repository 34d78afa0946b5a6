use Rattle.std.proofs.Common.{◌≡◌, drop}
use Rattle.container_values.specs.Elements.{values_of}
use Rattle.api_sort.specs.Ordering as spec
use Rattle.api_sort.proofs.ordering.first_other.Given as goal

-- the search through all comes to what the search through those that are left comes to
abbrev pub invariant-loop-at : goal.invariant-loop-at
invariant-loop-at l = spec.first_other l.first (drop 1 (values_of l.heap.objects l.container)) ≡ spec.first_other l.first (drop l.at (values_of l.heap.objects l.container))
