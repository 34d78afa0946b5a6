use Rattle.std.proofs.Common.{◌≡◌, ◌++◌, length}
use Rattle.container_ops.specs.Making.{arrays_from}
use Rattle.container_ops.proofs.arrays.arrays_from.Given as goal

-- the arrays so far, and behind them those of the levels that are left
abbrev pub invariant-levels : goal.invariant-levels
invariant-levels l = arrays_from l.initial.elem 1 l.sizes l.initial.first ≡ l.all ++ arrays_from l.elem l.count l.left l.first

abbrev pub decreases-levels : goal.decreases-levels
decreases-levels l = length l.left
