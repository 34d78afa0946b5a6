use Rattle.std.proofs.Common.{◌≡◌, [], drop}
use Rattle.api_map.specs.Bulk as spec
use Rattle.api_map.proofs.Bulking.{into}
use Rattle.api_map.proofs.bulk.sift.Given as goal

-- those that stay of the pairs that are left go behind those that stayed
abbrev pub invariant-loop-at : goal.invariant-loop-at
invariant-loop-at l = into [] (spec.sift (spec.choose l.heap.objects l.search) l.pairs) ≡ into l.left (spec.sift (spec.choose l.heap.objects l.search) (drop l.at l.pairs))
