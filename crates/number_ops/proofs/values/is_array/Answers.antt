use Rattle.std.proofs.Common.{◌∙◌}
use Rattle.object_heap.specs.Fits.{is_array_of}
use Rattle.number_ops.proofs.KindsOf.{kind_passes}
use Rattle.number_ops.proofs.values.is_array.Goals as goal

pub returns-in-Ref : goal.returns-in-Ref
returns-in-Ref c = rw c.in-Ref.is (c.is_array_at.ensures ∙ kind_passes (is_array_of c.args.elem.now) c.args.heap.now.objects c.in-Ref.id)
