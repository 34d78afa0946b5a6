use Rattle.std.proofs.Common.{◌≡◌, false, drop}
use Rattle.pl_lexer.specs.Enclosed.{text_next}
use Rattle.pl_lexer.specs.Lengths.{closed_at}
use Rattle.pl_lexer.proofs.Closing.{placed}
use Rattle.pl_lexer.proofs.enclosed.text_length.Given as goal

abbrev pub invariant-loop-i : goal.invariant-loop-i
invariant-loop-i l = closed_at (text_next l.quote) false l.bytes ≡ placed l.i (closed_at (text_next l.quote) l.escaped (drop l.i l.bytes))
