use Rattle.object_values.specs.declared.value.Value.TheVariants as v
use Rattle.std.proofs.Common.{true}
use Rattle.api_list.proofs.Entries.{entered_paid, never_unpaid, room_left}
use Rattle.api_list.proofs.entering.enter_within.Goals as goal

pub renewed-requires : goal.renewed-requires
renewed-requires c =
    room_left c.args.heap.now c.add_all.new.self c.args.list c.args.made c.args.object c.args.count c.requires.made c.requires.all c.requires.room c.in-Ok.ensures

pub returns-in-Ok : goal.returns-in-Ok
returns-in-Ok c =
    entered_paid c.args.heap.now c.add_all.new.self c.renewed.new.heap c.args.list c.args.made c.args.object c.args.count (v.Bool true) c.requires.made c.requires.all c.requires.room c.in-Ok.ensures c.renewed.ensures

pub returns-in-Err-Room : goal.returns-in-Err-Room
returns-in-Err-Room c = absurd (never_unpaid c.args.heap.now c.args.made c.args.count c.requires.made c.requires.room (rw c.in-Err-Room.field-0-is at c.in-Err-Room.ensures).0)
