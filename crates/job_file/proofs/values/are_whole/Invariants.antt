use Rattle.std.proofs.Common.{◌≡◌, drop}
use Rattle.serde_json.specs.View.{items_view}
use Rattle.job_file.specs.Values.{are_whole}
use Rattle.job_file.proofs.values.are_whole.Given as goal

abbrev pub invariant-loop-item : goal.invariant-loop-item
invariant-loop-item l = are_whole (items_view l.items.items) ≡ are_whole (items_view (drop l.item-index l.item-items))
