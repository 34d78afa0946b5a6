use Rattle.std.proofs.Common.{◌≡◌, ◌+◌, drop}
use Rattle.object_heap.specs.Store.{weight}
use Rattle.object_heap.proofs.weights.all_within.Given as goal

-- what is left of the room has to do for the objects that are left
abbrev pub invariant-loop-at : goal.invariant-loop-at
invariant-loop-at l = weight l.objects + l.left ≡ weight (drop l.at l.objects) + l.room
