use Rattle.std.proofs.Common.{◌≡◌, drop}
use Rattle.value_walks.specs.Equality as spec
use Rattle.value_walks.proofs.keyed.has_keys.Given as goal

-- what is left to look up comes to what all comes to
abbrev pub invariant-loop-at : goal.invariant-loop-at
invariant-loop-at l = spec.has_keys l.pairs l.other ≡ spec.has_keys (drop l.at l.pairs) l.other
