use Rattle.std.proofs.Common.{◌≡◌, drop}
use Rattle.api_map.specs.Sources as spec
use Rattle.api_map.proofs.sources.all_simple.Given as goal

-- whether all are simple is whether those that are left are
abbrev pub invariant-loop-at : goal.invariant-loop-at
invariant-loop-at l = spec.all_simple (spec.elements l.heap.objects l.source) ≡ spec.all_simple (drop l.at (spec.elements l.heap.objects l.source))
