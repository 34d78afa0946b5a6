use Rattle.pl_units.proofs.MatchLemmas.{found_forward, not_found_forward}
use Rattle.pl_units.proofs.search.find_in.Goals as goal

pub returns-in-Some-clause-found : goal.returns-in-Some-clause-found
returns-in-Some-clause-found c = found_forward c.args.text.now c.args.part.now c.args.from c.search.result c.search.ensures.found

pub returns-in-Some-clause-none : goal.returns-in-Some-clause-none
returns-in-Some-clause-none c = not_found_forward c.args.text.now c.args.part.now c.args.from c.search.result c.search.ensures.none
