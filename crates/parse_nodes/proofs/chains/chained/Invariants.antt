use Rattle.std.proofs.Common.{◌≡◌, length, reverse}
use Rattle.pl_grammar.specs.Making as making
use Rattle.parse_nodes.proofs.chains.chained.Given as goal

abbrev pub invariant-suffixes : goal.invariant-suffixes
invariant-suffixes l = making.chained l.whole (reverse l.more) ≡ making.chained l.fn.of l.fn.suffixes

abbrev pub decreases-suffixes : goal.decreases-suffixes
decreases-suffixes l = length l.more
