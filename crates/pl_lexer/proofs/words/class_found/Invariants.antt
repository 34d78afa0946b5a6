use Rattle.std.proofs.Common.{◌-◌, length, drop}
use Rattle.pl_lexer.proofs.Paths.{PathTo}
use Rattle.pl_lexer.proofs.words.class_found.Given as goal

abbrev pub invariant-loop-more : goal.invariant-loop-more
invariant-loop-more g l = PathTo (g.N.TypeNames.class_of l.names) (drop l.at l.text) l.length l.best

abbrev pub decreases-loop-more : goal.decreases-loop-more
decreases-loop-more g l = length (drop l.at l.text) - l.length
