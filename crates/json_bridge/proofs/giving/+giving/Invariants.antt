-- What all items and members come to is what those that are left come to from here, behind those that are made.
use Rattle.std.proofs.Common.{◌≡◌, ◌+◌, ◌*◌, ℕ, List, [], drop, map}
use Rattle.serde_json.specs.Data.{no_members}
use Rattle.serde_json.specs.View.{view, members_view}
use Rattle.json_bridge.specs.Giving as spec
use Rattle.json_bridge.specs.Giving.{AValue, HasNames, node_at}
use Rattle.json_bridge.proofs.giving.+giving.Given as goal

abbrev pub decreases-value_at : goal.decreases-value_at
decreases-value_at l = 8 * l.levels

abbrev pub decreases-pair_shown : goal.decreases-pair_shown
decreases-pair_shown l = 8 * l.levels + 1

abbrev pub decreases-items_given : goal.decreases-items_given
decreases-items_given l = 8 * l.levels + 1

abbrev pub decreases-members_given : goal.decreases-members_given
decreases-members_given l = 8 * l.levels + 1

abbrev pub decreases-all_shown : goal.decreases-all_shown
decreases-all_shown l = 8 * l.levels + 2

abbrev pub decreases-array_given : goal.decreases-array_given
decreases-array_given l = 8 * l.levels + 2

abbrev pub decreases-map_given : goal.decreases-map_given
decreases-map_given l = 8 * l.levels + 2

abbrev pub decreases-shown_given : goal.decreases-shown_given
decreases-shown_given l = 8 * l.levels + 3

abbrev pub decreases-held_given : goal.decreases-held_given
decreases-held_given l = 8 * l.levels + 4

abbrev pub decreases-value_given : goal.decreases-value_given
decreases-value_given l = 8 * l.levels + 5

abbrev pub invariant-items_given-loop-item : goal.invariant-items_given-loop-item
invariant-items_given-loop-item l =
    spec.items_given (λ value. node_at l.levels l.heap.objects (AValue value)) [] l.items l.fn.nodes
    ≡ spec.items_given (λ value. node_at l.levels l.heap.objects (AValue value)) (map view l.given.items) (drop l.item-index l.items) l.nodes

abbrev pub invariant-all_shown-loop-at : goal.invariant-all_shown-loop-at
invariant-all_shown-loop-at l =
    spec.items_given (λ pair. node_at l.levels l.heap.objects (spec.shown_of l.part pair)) [] l.pairs l.fn.nodes
    ≡ spec.items_given (λ pair. node_at l.levels l.heap.objects (spec.shown_of l.part pair)) (map view l.given.items) (drop l.at l.pairs) l.nodes

abbrev pub invariant-members_given-loop-at : goal.invariant-members_given-loop-at
invariant-members_given-loop-at l =
    (names : List (List ℕ)) × HasNames (members_view l.members.entries) names × (spec.are_new_names [] l.pairs ≡ spec.are_new_names names (drop l.at l.pairs))
    × (spec.members_given (λ value. node_at l.levels l.heap.objects (AValue value)) no_members l.pairs l.fn.nodes
    ≡ spec.members_given (λ value. node_at l.levels l.heap.objects (AValue value)) (members_view l.members.entries) (drop l.at l.pairs) l.nodes)
