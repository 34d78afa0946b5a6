use Rattle.std.proofs.Common.{◌-◌, length, refl, arith}
use Rattle.object_values.proofs.Behind.{moved_behind}
use Rattle.object_values.proofs.elements.move_up.Goals as goal

pub returns-clause-behind : goal.returns-clause-behind
returns-clause-behind g c =
    let xs = c.args.items.now in
    let moved = c.turn_front.ensures in
    moved_behind xs c.turn_front.new.elements c.args.dead (length xs - c.args.dead) (c.args.to - c.args.from) c.args.from c.args.to (omega arith) refl (omega (arith, moved.length)) moved.behind
