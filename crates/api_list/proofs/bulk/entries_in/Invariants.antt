use Rattle.std.proofs.Common.{◌≡◌, drop}
use Rattle.container_values.specs.Elements.{entry_keys_of}
use Rattle.api_map.specs.declared.sources.Source.TheVariants.{Items}
use Rattle.api_map.specs.Holding.{entry_in}
use Rattle.api_list.specs.Bulk as spec
use Rattle.api_list.proofs.bulk.entries_in.Given as goal

-- asking for all comes to what asking for those that are left comes to
abbrev pub invariant-loop-at : goal.invariant-loop-at
invariant-loop-at l =
    spec.all_there (entry_in l.heap.objects (Items l.list) l.map) (entry_keys_of l.heap.objects l.container)
    ≡ spec.all_there (entry_in l.heap.objects (Items l.list) l.map) (drop l.at (entry_keys_of l.heap.objects l.container))
