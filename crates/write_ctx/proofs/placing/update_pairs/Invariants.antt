-- What all keys come to is what those that are left come to from here.
use Rattle.std.proofs.Common.{◌≡◌, false, drop}
use Rattle.serde_json.specs.View.{view}
use Rattle.json_bridge.specs.Binding.{bound_members}
use Rattle.write_ctx.specs.Placing.{no_pairs, update_at}
use Rattle.write_ctx.proofs.placing.update_pairs.Given as goal

abbrev pub invariant-loop-key : goal.invariant-loop-key
invariant-loop-key l =
    (bound_members false (no_pairs l.initial.heap.objects) (update_at (view l.line) l.keys)
    ≡ bound_members false (record { pairs = l.pairs; objects = l.heap.objects }) (update_at (view l.line) (drop l.key-index l.keys)))
    × (l.heap.room ≡ l.initial.heap.room)
