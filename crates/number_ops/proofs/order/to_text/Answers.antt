use Rattle.number_ops.proofs.order.to_text.Goals as goal

pub returns : goal.returns
returns c = c.text_afforded.ensures _ (rw c.text_room.ensures at c.text_within.ensures)
