use Rattle.number_ops.proofs.TextRoom.{told_of_both}
use Rattle.number_ops.proofs.operators.concatenated.Goals as goal

pub returns : goal.returns
returns c =
    told_of_both c.args.heap.now c.args.a.now c.args.b.now _ _ _ _ _ _ c.text_room.ensures c.new-out.ensures c.push_both-walked.ensures c.text_written.ensures c.text_afforded.ensures
