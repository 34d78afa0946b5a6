use Rattle.pl_types.specs.Classes.{itself}
use Rattle.pl_types.proofs.Lineages.{lineage_line, complete, descends_from, descends_on, parents_earlier}
use Rattle.pl_types.proofs.classes.class_laws.Goals as goal

pub returns-clause-line : goal.returns-clause-line
returns-clause-line c = lineage_line

pub returns-clause-descends : goal.returns-clause-descends
returns-clause-descends c a b = (descends_from a b, complete)

pub returns-clause-reflexive : goal.returns-clause-reflexive
returns-clause-reflexive c a = complete itself

pub returns-clause-transitive : goal.returns-clause-transitive
returns-clause-transitive c a b d h k = complete (descends_on (descends_from a b h) (descends_from b d k))

pub returns-clause-earlier : goal.returns-clause-earlier
returns-clause-earlier c = parents_earlier
