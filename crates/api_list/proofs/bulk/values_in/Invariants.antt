use Rattle.std.proofs.Common.{◌≡◌, drop}
use Rattle.container_values.specs.Elements.{values_of}
use Rattle.api_map.specs.declared.sources.Source.TheVariants.{Items}
use Rattle.api_map.specs.Holding.{value_in}
use Rattle.api_list.specs.Bulk as spec
use Rattle.api_list.proofs.bulk.values_in.Given as goal

-- asking for all comes to what asking for those that are left comes to
abbrev pub invariant-loop-at : goal.invariant-loop-at
invariant-loop-at l =
    spec.all_there (value_in l.heap.objects (Items l.list)) (values_of l.heap.objects l.container)
    ≡ spec.all_there (value_in l.heap.objects (Items l.list)) (drop l.at (values_of l.heap.objects l.container))
