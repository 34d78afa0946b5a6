-- What is left of a list or an object decides. A level down there is less room.
use Rattle.std.proofs.Common.{◌≡◌, ◌+◌, ◌*◌, drop}
use Rattle.std.specs.Prelude.{nat_le}
use Rattle.serde_json.specs.Data.{items_depth, members_depth}
use Rattle.serde_json.specs.View.{items_view, members_view}
use Rattle.pipe_fields.proofs.depth.+depth.Given as goal

abbrev pub decreases-is_within : goal.decreases-is_within
decreases-is_within l = 2 * l.room

abbrev pub decreases-are_within : goal.decreases-are_within
decreases-are_within l = 2 * l.room + 1

abbrev pub decreases-all_within : goal.decreases-all_within
decreases-all_within l = 2 * l.room + 1

abbrev pub invariant-are_within-loop-item : goal.invariant-are_within-loop-item
invariant-are_within-loop-item l =
    nat_le (items_depth (items_view l.items.items)) l.room ≡ nat_le (items_depth (items_view (drop l.item-index l.item-items))) l.room

abbrev pub invariant-all_within-loop-key : goal.invariant-all_within-loop-key
invariant-all_within-loop-key l =
    nat_le (members_depth (members_view l.members.entries)) l.room ≡ nat_le (members_depth (members_view l._key-iterator)) l.room
