use Rattle.std.proofs.Common.{◌≡◌, drop}
use Rattle.api_map.specs.Sources as spec
use Rattle.api_map.proofs.sources.put_keys.Given as goal

-- with those that are left it comes to what it comes to with all
abbrev pub invariant-loop-at : goal.invariant-loop-at
invariant-loop-at l = spec.with_keys l.initial.into (spec.elements l.heap.objects l.source) ≡ spec.with_keys l.into (drop l.at (spec.elements l.heap.objects l.source))
