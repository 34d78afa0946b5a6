use Rattle.pl_lexer.proofs.Once.{Lexes-once}
use Rattle.pl_lexer.proofs.Some.{Lexes-some}
use Rattle.pl_lexer.proofs.laws.each_text_has_one_reading.Goals as goal

pub returns-clause-once : goal.returns-clause-once
returns-clause-once c = Lexes-once

pub returns-clause-some : goal.returns-clause-some
returns-clause-some c = Lexes-some
