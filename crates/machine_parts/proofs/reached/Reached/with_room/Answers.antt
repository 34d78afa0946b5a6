use Rattle.std.proofs.Common.{◌≤◌, rules}
use Rattle.std.specs.Vec.{vec_capacity}
use Rattle.machine_parts.proofs.Distinct.{no_members}
use Rattle.machine_parts.proofs.reached.Reached.with_room.Goals as goal

pub invariant_of-result : goal.invariant_of-result
invariant_of-result c =
    let room : c.args.room ≤ vec_capacity c.in_ok-with_capacity.field-0 = search rules in
    (no_members c.args.room c.in_ok-with_capacity.field-0.items c.in_ok-with_capacity.ensures.items, room)
