use Rattle.std.proofs.Common.{◌≡◌, ◌++◌, ◌≤◌, length, map, take}
use Rattle.typing_worklist.specs.Items.{item_of}
use Rattle.typing_worklist.proofs.item.Worklist.put.Given as goal

-- what is left is still to be put on
abbrev pub invariant-loop-left : goal.invariant-loop-left
invariant-loop-left l = (l.left ≤ length l.plan) × (map item_of l.fn.plan ++ l.initial.self ≡ map item_of (take l.left l.plan) ++ l.self)

abbrev pub decreases-loop-left : goal.decreases-loop-left
decreases-loop-left l = l.left
