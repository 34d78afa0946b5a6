use Rattle.pl_units.proofs.MatchLemmas.{last_backward, none_backward}
use Rattle.pl_units.proofs.search.rfind_in.Goals as goal

pub returns-in_err-end-in-Some-clause-none : goal.returns-in_err-end-in-Some-clause-none
returns-in_err-end-in-Some-clause-none c =
    rw c.from_residual.ensures (none_backward c.args.text.now c.args.part.now c.in_err-end-in-Some.ensures.none)

pub returns-in_ok-end-in-Some-clause-found : goal.returns-in_ok-end-in-Some-clause-found
returns-in_ok-end-in-Some-clause-found c = last_backward c.args.text.now c.args.part.now c.in_ok-end-in-Some.end c.in_ok-end-in-Some.ensures.found
