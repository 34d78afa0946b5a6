use Rattle.std.proofs.Common.{◌≡◌, ◌++◌, length}
use Rattle.container_ops.specs.Making.{lengths_given}
use Rattle.container_ops.proofs.arrays.lengths_given.Given as goal

-- the lengths so far, and those that are left
abbrev pub invariant-sizes : goal.invariant-sizes
invariant-sizes l = lengths_given l.sizes ≡ l.lengths.items ++ lengths_given l.left

abbrev pub decreases-sizes : goal.decreases-sizes
decreases-sizes l = length l.left
