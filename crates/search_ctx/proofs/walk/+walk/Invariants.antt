-- What all items and members give is what those that are left give from here.
use Rattle.std.proofs.Common.{◌≡◌, drop}
use Rattle.serde_json.specs.View.{items_view, members_view}
use Rattle.search_ctx.specs.DocValues.{all_taken, found_items, found_members}
use Rattle.search_ctx.proofs.walk.+walk.Given as goal

abbrev pub invariant-take_items-loop-item : goal.invariant-take_items-loop-item
invariant-take_items-loop-item l =
    all_taken l.initial.doc (found_items l.fields l.path l.place (items_view l.items.items))
    ≡ all_taken l.doc (found_items l.fields l.path l.place (items_view (drop l.item-index l.item-items)))

abbrev pub invariant-take_members-loop-name : goal.invariant-take_members-loop-name
invariant-take_members-loop-name l =
    all_taken l.initial.doc (found_members l.fields l.front (members_view l.members.entries))
    ≡ all_taken l.doc (found_members l.fields l.front (members_view l.name-iterator))
