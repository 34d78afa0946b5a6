use Rattle.std.proofs.Common.{◌≡◌, [], length}
use Rattle.object_values.specs.Pairs.{with_pairs}
use Rattle.container_ops.specs.Making.{pairs_in}
use Rattle.container_ops.proofs.literals.pairs_of.Given as goal

-- the pairs so far, with those that are left
abbrev pub invariant-parts : goal.invariant-parts
invariant-parts l = with_pairs [] (pairs_in l.parts) ≡ with_pairs l.pairs (pairs_in l.left)

abbrev pub decreases-parts : goal.decreases-parts
decreases-parts l = length l.left
