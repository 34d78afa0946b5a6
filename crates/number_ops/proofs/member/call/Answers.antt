use Rattle.number_ops.specs.Members.{does_numbered}
use Rattle.number_ops.proofs.member.call.Goals as goal

pub returns : goal.returns
returns c =
    let told = does_numbered c.args.heap.now.objects c.args.number c.args.args.now in
    record { exact = c.settle.ensures.exact told c.does_numbered.ensures; memory = c.settle.ensures.memory told c.does_numbered.ensures }
