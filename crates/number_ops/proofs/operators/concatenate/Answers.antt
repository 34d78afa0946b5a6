use Rattle.number_ops.specs.Operators.{concatenated}
use Rattle.number_ops.proofs.operators.concatenate.Goals as goal

pub returns : goal.returns
returns c = c.settle.ensures.exact (concatenated c.args.heap.now.objects c.args.a.now c.args.b.now) c.concatenated.ensures
