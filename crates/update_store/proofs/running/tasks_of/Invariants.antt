use Rattle.std.proofs.Common.{◌≡◌, ◌+◌, ◌++◌, ◌<◌, ◌^◌, length}
use Rattle.std.specs.Vec.Iter.{into_iter_items, into_iter_len}
use Rattle.update_store.specs.Updates.{numbered}
use Rattle.update_store.proofs.running.tasks_of.Given as goal

-- the clients so far and those that are left are all, and the numbers fit
abbrev pub invariant-loop-client : goal.invariant-loop-client
invariant-loop-client l = (l.tasks.items ++ numbered l.number (into_iter_items l.client-iterator) ≡ numbered 0 l.fn.clients.items)
    × (into_iter_len l.client-iterator ≡ length (into_iter_items l.client-iterator))
    × (l.number + length (into_iter_items l.client-iterator) < 2 ^ 32)
