-- What all items and members come to is what those that are left come to from here.
use Rattle.std.proofs.Common.{◌≡◌, drop, []}
use Rattle.serde_json.specs.View.{items_view, members_view}
use Rattle.job_file.specs.Values.{items_have_whole_numbers, members_have_whole_numbers}
use Rattle.json_bridge.specs.Binding.{Grown, bound_items, bound_members}
use Rattle.json_bridge.proofs.binding.+binding.Given as goal

abbrev pub invariant-bind_items-loop-item : goal.invariant-bind_items-loop-item
invariant-bind_items-loop-item l =
    (items_have_whole_numbers (items_view l.items.items) ≡ items_have_whole_numbers (items_view (drop l.item-index l.item-items)))
    × (bound_items l.frozen (record { values = []; objects = l.initial.heap.objects }) (items_view l.items.items)
    ≡ bound_items l.frozen (record { values = l.values; objects = l.heap.objects }) (items_view (drop l.item-index l.item-items)))
    × Grown l.initial.heap l.heap

abbrev pub invariant-bind_members-loop-name : goal.invariant-bind_members-loop-name
invariant-bind_members-loop-name l =
    (members_have_whole_numbers (members_view l.members.entries) ≡ members_have_whole_numbers (members_view l.name-iterator))
    × (bound_members l.frozen (record { pairs = []; objects = l.initial.heap.objects }) (members_view l.members.entries)
    ≡ bound_members l.frozen (record { pairs = l.pairs; objects = l.heap.objects }) (members_view l.name-iterator))
    × Grown l.initial.heap l.heap
