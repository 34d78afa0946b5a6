use Rattle.std.proofs.Common.{◌≡◌, ℕ, List, [], drop}
use Rattle.serde_json.specs.View.{members_view}
use Rattle.json_bridge.specs.Giving as spec
use Rattle.json_bridge.specs.Giving.{HasNames}
use Rattle.json_bridge.specs.Without.{without}
use Rattle.json_bridge.proofs.without.are_names.Given as goal

-- the other keys before the place are names, which the members have, and what all others come to is what those that are left come to
abbrev pub invariant-loop-at : goal.invariant-loop-at
invariant-loop-at l =
    (names : List (List ℕ)) × HasNames (members_view l.names.entries) names
    × (spec.are_new_names [] (without l.keys l.pairs) ≡ spec.are_new_names names (without l.keys (drop l.at l.pairs)))
