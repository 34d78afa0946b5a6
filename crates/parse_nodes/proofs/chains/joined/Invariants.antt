use Rattle.std.proofs.Common.{◌≡◌, length, reverse}
use Rattle.pl_grammar.specs.Making as making
use Rattle.parse_nodes.proofs.chains.joined.Given as goal

abbrev pub invariant-operations : goal.invariant-operations
invariant-operations l = making.joined l.whole (reverse l.more) ≡ making.joined l.fn.left l.fn.operations

abbrev pub decreases-operations : goal.decreases-operations
decreases-operations l = length l.more
