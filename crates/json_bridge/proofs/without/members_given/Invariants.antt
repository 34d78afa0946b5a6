-- What all other members come to is what those that are left come to from here, behind those that are made.
use Rattle.std.proofs.Common.{◌≡◌, ℕ, List, [], drop}
use Rattle.serde_json.specs.Data.{no_members}
use Rattle.serde_json.specs.View.{members_view}
use Rattle.json_bridge.specs.Giving as spec
use Rattle.json_bridge.specs.Giving.{AValue, HasNames, node_at}
use Rattle.json_bridge.specs.Without.{without}
use Rattle.json_bridge.proofs.without.members_given.Given as goal

abbrev pub invariant-loop-at : goal.invariant-loop-at
invariant-loop-at l =
    (names : List (List ℕ)) × HasNames (members_view l.members.entries) names
    × (spec.are_new_names [] (without l.keys l.pairs) ≡ spec.are_new_names names (without l.keys (drop l.at l.pairs)))
    × (spec.members_given (λ value. node_at 99 l.heap.objects (AValue value)) no_members (without l.keys l.pairs) l.fn.nodes
    ≡ spec.members_given (λ value. node_at 99 l.heap.objects (AValue value)) (members_view l.members.entries) (without l.keys (drop l.at l.pairs)) l.nodes)
