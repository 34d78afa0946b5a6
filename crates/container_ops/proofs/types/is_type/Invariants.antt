use Rattle.std.proofs.Common.{◌≡◌}
use Rattle.object_heap.specs.Fits.{is_type}
use Rattle.container_ops.specs.Types.{dimensions_of}
use Rattle.container_ops.proofs.types.is_type.Given as goal

-- an array type is one of values where that of its elements is
abbrev pub invariant-levels : goal.invariant-levels
invariant-levels l = is_type l.of ≡ is_type l.inner

abbrev pub decreases-levels : goal.decreases-levels
decreases-levels l = dimensions_of l.inner
