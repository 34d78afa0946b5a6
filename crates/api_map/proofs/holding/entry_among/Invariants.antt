use Rattle.std.proofs.Common.{◌≡◌, drop}
use Rattle.api_map.specs.Sources.{elements}
use Rattle.api_map.specs.Holding as spec
use Rattle.api_map.proofs.holding.entry_among.Given as goal

-- the search through all comes to what the search through those that are left comes to
abbrev pub invariant-loop-at : goal.invariant-loop-at
invariant-loop-at l =
    spec.among (spec.is_entry l.heap.objects l.from l.key) (elements l.heap.objects l.source) ≡ spec.among (spec.is_entry l.heap.objects l.from l.key) (drop l.at (elements l.heap.objects l.source))
