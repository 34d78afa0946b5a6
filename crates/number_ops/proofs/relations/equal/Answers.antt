use Rattle.number_ops.specs.Relations.{equal}
use Rattle.number_ops.proofs.relations.equal.Goals as goal

pub returns : goal.returns
returns c =
    let told = equal c.args.heap.now.objects c.args.a.now c.args.b.now in
    record { exact = c.settle.ensures.exact told c.equality.ensures; memory = c.settle.ensures.memory told c.equality.ensures }
