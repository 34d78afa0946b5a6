-- The laws of the plain grammar.
use Rattle.pl_grammar_plain.proofs.Into.{plain_script, script_plain}
use Rattle.pl_grammar_plain.proofs.Readings.{goes_on, begins, parses_plain, plain_parses, one_reading, some_reading}
use Rattle.pl_grammar_plain.proofs.plain.plain_laws.Goals as goal

pub returns-clause-barred : goal.returns-clause-barred
returns-clause-barred c = λ ls script h. plain_script ls script h

pub returns-clause-added : goal.returns-clause-added
returns-clause-added c = λ ls script h. script_plain ls script h

pub returns-clause-begun : goal.returns-clause-begun
returns-clause-begun c = λ ls. (goes_on ls, begins c.grammar_laws.ensures.begun ls)

pub returns-clause-same : goal.returns-clause-same
returns-clause-same c = λ text tokens reading. (parses_plain c.grammar_laws.ensures.begun text tokens reading, plain_parses c.grammar_laws.ensures.begun text tokens reading)

pub returns-clause-unique : goal.returns-clause-unique
returns-clause-unique c = one_reading c.grammar_laws.ensures.begun c.grammar_laws.ensures.unique

pub returns-clause-answered : goal.returns-clause-answered
returns-clause-answered c = some_reading c.grammar_laws.ensures.begun c.grammar_laws.ensures.answered
