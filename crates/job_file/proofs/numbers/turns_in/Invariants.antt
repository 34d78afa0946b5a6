use Rattle.std.proofs.Common.{◌≡◌, ◌++◌, drop}
use Rattle.serde_json.specs.View.{items_view}
use Rattle.job_file.specs.Limits.{all_name_turns, entries, numbers}
use Rattle.job_file.proofs.numbers.turns_in.Given as goal

abbrev pub invariant-loop-item : goal.invariant-loop-item
invariant-loop-item l =
    (all_name_turns l.fn.count (entries (items_view l.items.items)) ≡ all_name_turns l.fn.count (entries (items_view (drop l.item-index l.item-items))))
    × (l.order.items ++ numbers (entries (items_view (drop l.item-index l.item-items))) ≡ numbers (entries (items_view l.items.items)))
