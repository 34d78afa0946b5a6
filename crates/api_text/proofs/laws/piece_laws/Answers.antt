use Rattle.api_text.proofs.PieceLaws.{cuts_end, pieces_join, replaced_joins}
use Rattle.api_text.proofs.laws.piece_laws.Goals as goal

pub returns-clause-join : goal.returns-clause-join
returns-clause-join c = pieces_join

pub returns-clause-replaced : goal.returns-clause-replaced
returns-clause-replaced c = replaced_joins

pub returns-clause-end : goal.returns-clause-end
returns-clause-end c = cuts_end
