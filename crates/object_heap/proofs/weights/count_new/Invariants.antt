use Rattle.std.proofs.Common.{◌≡◌, ◌≤◌, ◌+◌, drop}
use Rattle.object_heap.specs.Objects.{new_keys}
use Rattle.object_heap.proofs.weights.count_new.Given as goal

-- those that are counted and those that are left are all
abbrev pub invariant-loop-at : goal.invariant-loop-at
invariant-loop-at l = (new_keys l.pairs l.more ≡ l.count + new_keys l.pairs (drop l.at l.more)) × (l.count ≤ l.at)
