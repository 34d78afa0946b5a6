use Rattle.std.proofs.Common.{◌≡◌, [], drop}
use Rattle.api_list.specs.Bulk as spec
use Rattle.api_list.proofs.Sifting.{behind}
use Rattle.api_list.proofs.bulk.sift.Given as goal

-- those that stay of the items that are left stand behind those that stayed
abbrev pub invariant-loop-at : goal.invariant-loop-at
invariant-loop-at l = behind [] (spec.sift (spec.choose l.heap.objects l.bulk l.source) l.items) ≡ behind l.left (spec.sift (spec.choose l.heap.objects l.bulk l.source) (drop l.at l.items))
