use Rattle.std.proofs.Common.{◌≡◌, drop}
use Rattle.container_calls.specs.Members.{in_ranges}
use Rattle.container_calls.proofs.built.is_in.Given as goal

-- whether the number is in one of all ranges is whether it is in one of those that are left
abbrev pub invariant-loop-at : goal.invariant-loop-at
invariant-loop-at l = in_ranges l.ranges l.fn.number ≡ in_ranges (drop l.at l.ranges) l.fn.number
