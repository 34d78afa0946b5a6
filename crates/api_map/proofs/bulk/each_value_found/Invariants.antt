use Rattle.std.proofs.Common.{◌≡◌, drop}
use Rattle.api_map.specs.Collections.{found_in}
use Rattle.api_map.specs.Sources.{elements}
use Rattle.api_map.specs.Bulk as spec
use Rattle.api_map.proofs.bulk.each_value_found.Given as goal

-- asking for all comes to what asking for those that are left comes to
abbrev pub invariant-loop-at : goal.invariant-loop-at
invariant-loop-at l =
    spec.each_found (found_in l.heap.objects l.keyed) (elements l.heap.objects l.source) ≡ spec.each_found (found_in l.heap.objects l.keyed) (drop l.at (elements l.heap.objects l.source))
