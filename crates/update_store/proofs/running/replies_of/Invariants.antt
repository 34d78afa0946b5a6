use Rattle.std.proofs.Common.{◌≡◌, ◌++◌, length, map}
use Rattle.std.specs.Vec.Iter.{into_iter_items, into_iter_len}
use Rattle.serde_json.specs.View.{view}
use Rattle.update_store.specs.Updates.{replies_of}
use Rattle.update_store.proofs.running.replies_of.Given as goal

-- the replies so far and those that are left are all
abbrev pub invariant-loop-task : goal.invariant-loop-task
invariant-loop-task l = (map view l.replies.items ++ replies_of (into_iter_items l.task-iterator) ≡ replies_of l.fn.tasks.items)
    × (into_iter_len l.task-iterator ≡ length (into_iter_items l.task-iterator))
