use Rattle.std.proofs.Common.{◌∙◌}
use Rattle.object_heap.specs.Fits.{kind_is_of}
use Rattle.number_ops.proofs.KindsOf.{kind_passes}
use Rattle.number_ops.proofs.values.is_of.Goals as goal

pub returns-in-Ref : goal.returns-in-Ref
returns-in-Ref c = rw c.in-Ref.is (c.is_of_class.ensures ∙ kind_passes (kind_is_of c.args.class) c.args.heap.now.objects c.in-Ref.id)
