use Rattle.std.proofs.Common.{◌≡◌, ◌-◌, length}
use Rattle.api_list.specs.Searching as spec
use Rattle.api_list.proofs.searching.last_of.Given as goal

-- the search through all comes to what the search through those that are left comes to
abbrev pub invariant-loop-passed : goal.invariant-loop-passed
invariant-loop-passed l = spec.last_before l.heap.objects l.value l.items (length l.items) ≡ spec.last_before l.heap.objects l.value l.items (length l.items - l.passed)
