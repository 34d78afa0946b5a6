use Rattle.std.proofs.Common.{◌≡◌, length}
use Rattle.object_heap.specs.Fits.{kinds}
use Rattle.container_ops.specs.Types.{are_of_type}
use Rattle.container_ops.proofs.types.are_of_type.Given as goal

-- those that were looked at are of the type
abbrev pub invariant-values : goal.invariant-values
invariant-values l = are_of_type (kinds l.heap.objects) l.of l.values ≡ are_of_type (kinds l.heap.objects) l.of l.left

abbrev pub decreases-values : goal.decreases-values
decreases-values l = length l.left
