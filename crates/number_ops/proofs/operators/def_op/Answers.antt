use Rattle.number_ops.specs.Operators.{operate}
use Rattle.number_ops.proofs.operators.def_op.Goals as goal

pub returns : goal.returns
returns c =
    let told = operate c.args.heap.now.objects c.args.op c.args.a.now c.args.b.now in
    record { exact = c.settle.ensures.exact told c.operate.ensures; memory = c.settle.ensures.memory told c.operate.ensures }
