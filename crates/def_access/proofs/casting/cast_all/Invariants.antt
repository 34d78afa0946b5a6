use Rattle.std.proofs.Common.{◌≡◌, ◌+◌, length}
use Rattle.def_access.specs.Access.{casts_from}
use Rattle.def_access.proofs.casting.cast_all.Given as goal

-- what is left to cast, from here, is what all casts come to
abbrev pub invariant-params : goal.invariant-params
invariant-params l =
    (casts_from l.fn.heap.objects l.fn.params 1 l.fn.values ≡ casts_from l.fn.heap.objects l.left l.at l.values) × (l.heap ≡ l.fn.heap) × (l.at + length l.left ≡ 1 + length l.fn.params)

abbrev pub decreases-params : goal.decreases-params
decreases-params l = length l.left
