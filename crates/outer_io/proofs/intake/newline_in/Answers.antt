use Rattle.outer_io.proofs.Newlines.{newline-first}
use Rattle.outer_io.proofs.intake.newline_in.Goals as goal

pub returns-clause-found : goal.returns-clause-found
returns-clause-found c = (newline-first _ _ c.memchr.ensures).0

pub returns-clause-none : goal.returns-clause-none
returns-clause-none c = (newline-first _ _ c.memchr.ensures).1
