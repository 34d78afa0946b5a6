use Rattle.std.proofs.Common.{◌≡◌, drop}
use Rattle.object_values.specs.Pairs as spec
use Rattle.api_map.proofs.sources.put_pairs.Given as goal

-- with those that are left it comes to what it comes to with all
abbrev pub invariant-loop-at : goal.invariant-loop-at
invariant-loop-at l = spec.with_pairs l.initial.into l.from ≡ spec.with_pairs l.into (drop l.at l.from)
