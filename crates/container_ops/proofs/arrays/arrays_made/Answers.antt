use Rattle.std.proofs.Common.{refl, sym, ◌∙◌}
use Rattle.container_ops.proofs.Landing.{no_room_made}
use Rattle.container_ops.proofs.arrays.arrays_made.Goals as goal

pub returns-else-are_within : goal.returns-else-are_within
returns-else-are_within c =
    (no_room_made c.args.heap.now c.args.of.now c.args.sizes.now c.room_left.result c.room_left.ensures (sym c.are_within.ensures ∙ c.if-are_within.false), refl)
