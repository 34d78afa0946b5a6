use Rattle.std.proofs.Common.{◌≡◌, drop}
use Rattle.api_list.specs.Searching as spec
use Rattle.api_list.proofs.searching.first_same.Given as goal

-- the search through all comes to what the search through those that are left comes to
abbrev pub invariant-loop-at : goal.invariant-loop-at
invariant-loop-at l = spec.first_same_from l.value 0 l.items ≡ spec.first_same_from l.value l.at (drop l.at l.items)
