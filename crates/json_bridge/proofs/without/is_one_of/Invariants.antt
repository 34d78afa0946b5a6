use Rattle.std.proofs.Common.{◌≡◌, drop}
use Rattle.json_bridge.specs.Without.{is_one_of}
use Rattle.json_bridge.proofs.without.is_one_of.Given as goal

-- whether the key is one of all is whether it is one of those that are left
abbrev pub invariant-loop-at : goal.invariant-loop-at
invariant-loop-at l = is_one_of l.keys l.key ≡ is_one_of (drop l.at l.keys) l.key
