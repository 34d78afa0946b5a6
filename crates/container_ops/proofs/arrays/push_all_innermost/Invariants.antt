use Rattle.std.proofs.Common.{◌≡◌, ◌++◌}
use Rattle.std.specs.Prelude.{replicate}
use Rattle.object_values.specs.declared.object.Object.TheVariants as o
use Rattle.container_ops.specs.Types.{default_of}
use Rattle.container_ops.proofs.arrays.push_all_innermost.Given as goal

-- the arrays so far
abbrev pub invariant-rows : goal.invariant-rows
invariant-rows l = l.all ≡ l.initial.all ++ replicate l.row (o.Array l.elem (replicate l.size (default_of l.elem)))
