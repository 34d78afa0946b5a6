use Rattle.std.proofs.Common.{◌≡◌, ◌++◌, length, reverse}
use Rattle.parse_nodes.proofs.lists.reversed.Given as goal

abbrev pub invariant-items : goal.invariant-items
invariant-items g l = l.reversed ++ reverse l.left ≡ reverse l.fn.items

abbrev pub decreases-items : goal.decreases-items
decreases-items g l = length l.left
