use Rattle.pl_lexer.proofs.Listed.{NoSignAbove}
use Rattle.pl_lexer.proofs.signs.sign_found.Given as goal

abbrev pub invariant-loop-size : goal.invariant-loop-size
invariant-loop-size l = NoSignAbove l.text l.size

abbrev pub decreases-loop-size : goal.decreases-loop-size
decreases-loop-size l = l.size
