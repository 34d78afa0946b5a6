use Rattle.std.proofs.Common.{◌-◌, length, drop}
use Rattle.pl_lexer.proofs.Cuts.{CutsSoFar}
use Rattle.pl_lexer.proofs.cutting.lex.Given as goal

abbrev pub invariant-loop-at : goal.invariant-loop-at
invariant-loop-at g l = CutsSoFar (g.N.TypeNames.class_of l.names) l.text l.tokens.items (drop l.at l.text) l.at l.dot

abbrev pub decreases-loop-at : goal.decreases-loop-at
decreases-loop-at g l = length l.text - l.at
