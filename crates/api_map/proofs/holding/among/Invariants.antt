use Rattle.std.proofs.Common.{◌≡◌, drop}
use Rattle.container_outcomes.specs.Comparing.{comparison}
use Rattle.api_map.specs.Sources.{elements}
use Rattle.api_map.specs.Holding as spec
use Rattle.api_map.proofs.holding.among.Given as goal

-- the search through all comes to what the search through those that are left comes to
abbrev pub invariant-loop-at : goal.invariant-loop-at
invariant-loop-at l =
    spec.among (comparison l.heap.objects l.value) (elements l.heap.objects l.source) ≡ spec.among (comparison l.heap.objects l.value) (drop l.at (elements l.heap.objects l.source))
