-- Stacks by their places.
use Rattle.std.specs.Prelude.{◌≡◌, ℕ, ◌<◌, Bool, true, List, [], ◌∷◌, ◌++◌, length, map, nat_lt, slice_index_or}
use Rattle.std.specs.List.{list_all}
use Rattle.pl_code.specs.declared.kinds.Slot.{Slot}
use Rattle.pl_code.specs.declared.kinds.Slot.TheVariants.{I, J, R}
use Rattle.verifier_table.specs.declared.node.Node.{Node}
use Rattle.verifier_table.specs.declared.node.Place.{Place}
use Rattle.verifier_table.specs.declared.node.Place.TheVariants as place
use Rattle.instruction_types.specs.Effects.{same_slots}
use Rattle.verifier_table.specs.Shapes.{Meeting, Nowhere, Known, Torn}

-- the stack at a place
abbrev pub stack_at : List (List Slot) → ℕ → List Slot
stack_at stacks at = slice_index_or stacks at []

-- the kind on the top, and the place of what lies below
abbrev pub part_of : Node → Slot × ℕ
part_of n = (n.kind, n.below)

-- stacks, and one for each of more parts
abbrev pub stacks_from : List (List Slot) → List (Slot × ℕ) → List (List Slot)
stacks_from stacks [] = stacks
stacks_from stacks (p ∷ ps) = stacks_from (stacks ++ (p.0 ∷ stack_at stacks p.1) ∷ []) ps

-- The stacks of nodes. The first is empty, whatever its node.
unfoldable pub stacks_of : List Node → List (List Slot)
stacks_of [] = [] ∷ []
stacks_of (n ∷ nodes) = stacks_from ([] ∷ []) (map part_of nodes)

-- a node that nothing stands on yet
abbrev pub fresh : Slot → ℕ → ℕ → ℕ → ℕ → Node
fresh kind below height window under = record { kind = kind; below = below; height = height; window = window; under = under; with_int = 0; with_long = 0; with_reference = 0 }

abbrev pub root : Node
root = fresh R 0 0 0 0

abbrev pub node_at : List Node → ℕ → Node
node_at nodes at = slice_index_or nodes at root

abbrev pub link_of : Node → Slot → ℕ
link_of n I = n.with_int
link_of n J = n.with_long
link_of n R = n.with_reference

-- a node whose link for a kind is this one
abbrev pub with_link : Node → Slot → ℕ → Node
with_link n I to = record { kind = n.kind; below = n.below; height = n.height; window = n.window; under = n.under; with_int = to; with_long = n.with_long; with_reference = n.with_reference }
with_link n J to = record { kind = n.kind; below = n.below; height = n.height; window = n.window; under = n.under; with_int = n.with_int; with_long = to; with_reference = n.with_reference }
with_link n R to = record { kind = n.kind; below = n.below; height = n.height; window = n.window; under = n.under; with_int = n.with_int; with_long = n.with_long; with_reference = to }

-- what lies below a node comes before it, and leads to it
pub record IsLinked (nodes : List Node) (at : ℕ) : Type 0 where
  pub before : (node_at nodes at).below < at
  pub found : link_of (node_at nodes (node_at nodes at).below) (node_at nodes at).kind ≡ at

-- a link leads to the node with that kind on top of this one
pub record LeadsTo (nodes : List Node) (from : ℕ) (kind : Slot) (to : ℕ) : Type 0 where
  pub within : to < length nodes
  pub below : (node_at nodes to).below ≡ from
  pub kind_is : same_slots (node_at nodes to).kind kind ≡ true

-- nodes of which no two have one stack
pub record AreLinked (nodes : List Node) : Type 0 where
  pub some : 0 < length nodes
  pub each : (at : ℕ) → 0 < at → at < length nodes → IsLinked nodes at
  pub links : (from : ℕ) (kind : Slot) → from < length nodes → 0 < link_of (node_at nodes from) kind → LeadsTo nodes from kind (link_of (node_at nodes from) kind)

-- what stands at a line
abbrev pub seen_place : List (List Slot) → Place → Meeting
seen_place stacks place.Nowhere = Nowhere
seen_place stacks (place.Known at) = Known (stack_at stacks at)
seen_place stacks place.Torn = Torn

abbrev pub is_within : ℕ → Place → Bool
is_within count (place.Known at) = nat_lt at count
is_within count place.Nowhere = true
is_within count place.Torn = true

-- what stands at lines are stacks that are there
pub record AreWithin (count : ℕ) (places : List Place) : Type 0 where
  pub each : list_all (is_within count) places ≡ true
