use Rattle.std.proofs.Common.{◌≡◌, ◌++◌, drop}
use Rattle.container_values.specs.Elements.{entries_under, entry_keys_of}
use Rattle.container_values.proofs.taking.entries.Given as goal

-- what is made, and behind it the entries under the keys that are left, are the entries
abbrev pub invariant-loop-at : goal.invariant-loop-at
invariant-loop-at l = l.made ++ entries_under l.map (drop l.at (entry_keys_of l.heap.objects l.container)) ≡ entries_under l.map (entry_keys_of l.heap.objects l.container)
