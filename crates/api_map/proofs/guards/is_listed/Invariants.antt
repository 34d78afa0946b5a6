use Rattle.std.proofs.Common.{◌≡◌, drop}
use Rattle.api_map.specs.Guards as spec
use Rattle.api_map.proofs.guards.is_listed.Given as goal

-- whether the text is among all is whether it is among those that are left
abbrev pub invariant-loop-at : goal.invariant-loop-at
invariant-loop-at l = spec.is_listed l.keys l.text ≡ spec.is_listed (drop l.at l.keys) l.text
