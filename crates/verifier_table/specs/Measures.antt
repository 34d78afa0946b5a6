-- What a node keeps of its stack, so that it takes no walk to find it.
use Rattle.std.specs.Prelude.{◌≡◌, ℕ, ◌<◌, List, length, take, drop}
use Rattle.pl_code.specs.declared.kinds.Slot.{Slot}
use Rattle.verifier_table.specs.declared.node.Node.{Node}
use Rattle.verifier_table.specs.Nodes.{stack_at, stacks_of, node_at}
use Rattle.verifier_table.specs.Windows.{numeral_of}

-- how high it is, the number of its top 31 kinds, and the place of what lies below them
pub record Measure : Type 0 where
  pub height : ℕ
  pub window : ℕ
  pub under : ℕ

abbrev pub measure_of : Node → Measure
measure_of n = record { height = n.height; window = n.window; under = n.under }

-- a measure is that of kinds, where these stacks are
pub record Measures (stacks : List (List Slot)) (kinds : List Slot) (m : Measure) : Type 0 where
  pub height : m.height ≡ length kinds
  pub window : m.window ≡ numeral_of (take 31 kinds)
  pub within : m.under < length stacks
  pub under : stack_at stacks m.under ≡ drop 31 kinds

-- each node has the measure of its stack
pub record HaveMeasures (nodes : List Node) : Type 0 where
  pub each : (at : ℕ) → at < length nodes → Measures (stacks_of nodes) (stack_at (stacks_of nodes) at) (measure_of (node_at nodes at))
