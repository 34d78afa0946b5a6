use Rattle.std.proofs.Common.{◌≡◌, drop}
use Rattle.object_values.specs.declared.object.Part.TheVariants.{Keys}
use Rattle.api_map.specs.declared.sources.Source.TheVariants.{Pairs}
use Rattle.api_map.specs.Sources.{elements}
use Rattle.api_map.specs.Bulk as spec
use Rattle.api_map.proofs.bulk.each_entry_found.Given as goal

-- asking for all comes to what asking for those that are left comes to
abbrev pub invariant-loop-at : goal.invariant-loop-at
invariant-loop-at l =
    spec.each_found (spec.entry_found_in l.heap.objects l.keyed l.from) (elements l.heap.objects (Pairs l.from Keys))
    ≡ spec.each_found (spec.entry_found_in l.heap.objects l.keyed l.from) (drop l.at (elements l.heap.objects (Pairs l.from Keys)))
