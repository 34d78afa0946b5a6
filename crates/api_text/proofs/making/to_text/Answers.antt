use Rattle.api_text.proofs.making.to_text.Goals as goal

pub returns : goal.returns
returns c = c.text_made.ensures _ (rw c.text_room.ensures at c.text_within.ensures)
