use Rattle.api_text.proofs.making.with_replaced.Goals as goal

pub returns : goal.returns
returns c = c.made.ensures _ (rw c.room_left.ensures at c.replaced.ensures)
