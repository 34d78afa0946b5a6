use Rattle.number_ops.specs.Casts.{cast_at_run_time}
use Rattle.number_ops.proofs.casts.to_type.Goals as goal

pub returns : goal.returns
returns c =
    let told = cast_at_run_time c.args.heap.now.objects c.args.value.now c.args.to.now c.args.explicit in
    record { exact = c.settle.ensures.exact told c.cast.ensures; memory = c.settle.ensures.memory told c.cast.ensures }
