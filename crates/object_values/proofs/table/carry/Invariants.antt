use Rattle.std.proofs.Common.{◌≡◌, ◌+◌, ◌≤◌, ◌++◌, reverse}
use Rattle.indexmap.specs.IndexMap.{spare}
use Rattle.object_values.proofs.table.carry.Given as goal

-- seen over both ends the pairs are the same, and there is room for those that are still to go
abbrev pub invariant-loop-turn : goal.invariant-loop-turn
invariant-loop-turn l = record { same : l.from.entries ++ reverse l.to.entries ≡ l.fn.from.entries ++ reverse l.fn.to.entries; room : l.count ≤ l._turn + spare l.to }
