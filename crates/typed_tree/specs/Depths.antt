-- How deep the parts of an expression are.
use Rattle.std.specs.Prelude.{ℕ, List}
use Rattle.typed_tree.specs.declared.operation.Operation.TheVariants as o
use Rattle.typed_tree.specs.declared.typed.Typed.{Typed}
use Rattle.typed_tree.specs.declared.typed.Node.{size-Node}
use Rattle.typed_tree.specs.declared.typed.Node.TheVariants as n

-- one more than the depth of the deepest of some parts
abbrev pub above : List Typed → ℕ
above parts = size-Node (n.Apply o.DefIndex parts)
