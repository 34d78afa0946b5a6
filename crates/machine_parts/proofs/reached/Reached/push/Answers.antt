use Rattle.std.proofs.Common.{◌≡◌, ◌<◌, ◌≤◌, false, sym, subst, rules}
use Rattle.std.specs.Vec.{vec_capacity}
use Rattle.machine_parts.specs.Rooms.{AreMembers, Called, is_among}
use Rattle.machine_parts.proofs.Distinct.{one_more}
use Rattle.machine_parts.proofs.reached.Reached.push.Goals as goal

pub invariant_of-self-2 : goal.invariant_of-self-2
invariant_of-self-2 c =
    let first = subst (λ (v : Called). is_among c.args.number v.numbers ≡ false) (sym c.self.view_is) c.requires.first in
    let member = subst (λ (v : Called). c.args.number < v.room) (sym c.self.view_is) c.requires.member in
    let room : c.self.inside.room ≤ vec_capacity c.push.new.self = search rules in
    (subst (AreMembers c.self.inside.room) (sym c.in_ok-push.ensures.items) (one_more c.self.inside.room c.args.number c.self.inside.numbers.items member first c.self.invariant.0), room)
