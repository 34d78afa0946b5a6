use Rattle.std.proofs.Common.{◌≡◌, ◌+◌, ◌*◌, drop}
use Rattle.value_walks.specs.Texts as spec
use Rattle.value_walks.proofs.Behind.{rest_text}
use Rattle.value_walks.proofs.writing.+text.Given as goal

abbrev pub decreases-value_at : goal.decreases-value_at
decreases-value_at l = 9 * l.levels

abbrev pub decreases-entry_at : goal.decreases-entry_at
decreases-entry_at l = 9 * l.levels

abbrev pub decreases-pair_text : goal.decreases-pair_text
decreases-pair_text l = 9 * l.levels + 1

abbrev pub decreases-shown_text : goal.decreases-shown_text
decreases-shown_text l = 9 * l.levels + 2

abbrev pub decreases-all_pairs_text : goal.decreases-all_pairs_text
decreases-all_pairs_text l = 9 * l.levels + 3

abbrev pub decreases-pairs_text : goal.decreases-pairs_text
decreases-pairs_text l = 9 * l.levels + 4

abbrev pub decreases-keyed_text : goal.decreases-keyed_text
decreases-keyed_text l = 9 * l.levels + 5

abbrev pub decreases-items_text : goal.decreases-items_text
decreases-items_text l = 9 * l.levels + 1

abbrev pub decreases-list_text : goal.decreases-list_text
decreases-list_text l = 9 * l.levels + 2

abbrev pub decreases-object_text : goal.decreases-object_text
decreases-object_text l = 9 * l.levels + 6

abbrev pub decreases-value_text : goal.decreases-value_text
decreases-value_text l = 9 * l.levels + 7

-- behind what was written comes the text of the items that are left
abbrev pub invariant-items_text-loop-at : goal.invariant-items_text-loop-at
invariant-items_text-loop-at l =
    spec.written l.fn.out (spec.items_text (λ value. spec.node_at l.levels l.heap.objects (spec.AValue value)) l.items l.visits)
    ≡ spec.written l.out (rest_text (λ value. spec.node_at l.levels l.heap.objects (spec.AValue value)) l.at (drop l.at l.items) l.rest)

abbrev pub invariant-all_pairs_text-loop-at : goal.invariant-all_pairs_text-loop-at
invariant-all_pairs_text-loop-at l =
    spec.written l.fn.out (spec.items_text (spec.shown_text (spec.node_at l.levels l.heap.objects) l.shown) l.pairs l.visits)
    ≡ spec.written l.out (rest_text (spec.shown_text (spec.node_at l.levels l.heap.objects) l.shown) l.at (drop l.at l.pairs) l.rest)
