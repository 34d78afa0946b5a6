use Rattle.std.proofs.Common.{to_z-of_z}
use Rattle.api_text.proofs.making.split_at.Goals as goal

pub returns : goal.returns
returns c = c.array_made.ensures _ (rw (c.room_left.ensures, to_z-of_z c.ranges.limit) at c.pieces.ensures)
