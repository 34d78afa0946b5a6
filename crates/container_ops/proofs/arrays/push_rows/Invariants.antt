use Rattle.std.proofs.Common.{◌≡◌, ◌-◌, ◌++◌}
use Rattle.container_ops.specs.Making.{rows_of}
use Rattle.container_ops.proofs.arrays.push_rows.Given as goal

-- the arrays so far, and behind them those that are left
abbrev pub invariant-rows : goal.invariant-rows
invariant-rows l = l.all ++ rows_of l.elem (l.count - l.row) l.size l.number ≡ l.initial.all ++ rows_of l.elem l.count l.size l.first
