use Rattle.std.proofs.Common.{◌≡◌, ◌+◌, ◌*◌, drop, length}
use Rattle.value_walks.specs.Equality as spec
use Rattle.value_walks.proofs.equality.+equality.Given as goal

abbrev pub decreases-equal_at : goal.decreases-equal_at
decreases-equal_at l = 5 * l.levels

abbrev pub decreases-found_equal : goal.decreases-found_equal
decreases-found_equal l = 5 * l.levels + 1

abbrev pub decreases-all_equal : goal.decreases-all_equal
decreases-all_equal l = 5 * l.levels + 1

abbrev pub decreases-both_equal : goal.decreases-both_equal
decreases-both_equal l = 5 * l.levels + 1

abbrev pub decreases-entries_equal : goal.decreases-entries_equal
decreases-entries_equal l = 5 * l.levels + 2

abbrev pub decreases-maps_equal : goal.decreases-maps_equal
decreases-maps_equal l = 5 * l.levels + 2

abbrev pub decreases-objects_equal : goal.decreases-objects_equal
decreases-objects_equal l = 5 * l.levels + 3

abbrev pub decreases-contents_equal : goal.decreases-contents_equal
decreases-contents_equal l = 5 * l.levels + 4

-- what is left to compare comes to what all comes to
abbrev pub invariant-all_equal-loop-at : goal.invariant-all_equal-loop-at
invariant-all_equal-loop-at l =
    (length l.left ≡ length l.right)
    × (spec.items_equal (spec.equal_at l.levels l.heap.objects) l.left l.right l.visits
    ≡ spec.items_equal (spec.equal_at l.levels l.heap.objects) (drop l.at l.left) (drop l.at l.right) l.rest)

abbrev pub invariant-maps_equal-loop-at : goal.invariant-maps_equal-loop-at
invariant-maps_equal-loop-at l =
    spec.pairs_equal (spec.equal_at l.levels l.heap.objects) l.left l.right l.visits
    ≡ spec.pairs_equal (spec.equal_at l.levels l.heap.objects) (drop l.at l.left) l.right l.rest
