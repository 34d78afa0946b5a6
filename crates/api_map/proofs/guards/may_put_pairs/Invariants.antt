use Rattle.std.proofs.Common.{◌≡◌, drop}
use Rattle.object_heap.specs.Parts.{guard_of}
use Rattle.api_map.specs.Guards as spec
use Rattle.api_map.proofs.guards.may_put_pairs.Given as goal

-- what holds of all keys is what holds of those that are left
abbrev pub invariant-loop-at : goal.invariant-loop-at
invariant-loop-at l = spec.may_put_all (guard_of l.heap.objects l.id) l.pairs ≡ spec.may_put_all (guard_of l.heap.objects l.id) (drop l.at l.pairs)
