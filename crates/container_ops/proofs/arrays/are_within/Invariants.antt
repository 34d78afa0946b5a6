use Rattle.std.proofs.Common.{◌≡◌, ◌+◌, length}
use Rattle.container_ops.specs.Sizes.{cost_of}
use Rattle.container_ops.proofs.arrays.are_within.Given as goal

-- what is taken from the room, and what is left to pay, is the cost of all
abbrev pub invariant-levels : goal.invariant-levels
invariant-levels l = cost_of 1 l.sizes + l.room_left ≡ cost_of l.count l.left + l.room

abbrev pub decreases-levels : goal.decreases-levels
decreases-levels l = length l.left
