use Rattle.std.proofs.Common.{◌≡◌, length}
use Rattle.container_ops.specs.Making.{have_simple_keys, pairs_in}
use Rattle.container_ops.proofs.literals.have_simple_keys.Given as goal

-- the keys that were looked at are simple
abbrev pub invariant-parts : goal.invariant-parts
invariant-parts l = have_simple_keys (pairs_in l.parts) ≡ have_simple_keys (pairs_in l.left)

abbrev pub decreases-parts : goal.decreases-parts
decreases-parts l = length l.left
