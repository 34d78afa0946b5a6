use Rattle.std.proofs.Common.{◌≡◌, length}
use Rattle.container_ops.specs.Making.{first_negative}
use Rattle.container_ops.proofs.arrays.first_negative.Given as goal

-- the sizes that were looked at are not negative
abbrev pub invariant-sizes : goal.invariant-sizes
invariant-sizes l = first_negative l.sizes ≡ first_negative l.left

abbrev pub decreases-sizes : goal.decreases-sizes
decreases-sizes l = length l.left
