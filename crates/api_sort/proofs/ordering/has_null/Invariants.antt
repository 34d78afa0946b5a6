use Rattle.std.proofs.Common.{◌≡◌, drop}
use Rattle.container_values.specs.Elements.{values_of}
use Rattle.api_sort.specs.Ordering as spec
use Rattle.api_sort.proofs.ordering.has_null.Given as goal

-- whether there is a null among all is whether there is one among those that are left
abbrev pub invariant-loop-at : goal.invariant-loop-at
invariant-loop-at l = spec.has_null (values_of l.heap.objects l.container) ≡ spec.has_null (drop l.at (values_of l.heap.objects l.container))
