use Rattle.pl_units.proofs.PeriodLemmas.{skip_of_period, skip_of_third}
use Rattle.pl_units.proofs.periods.PeriodTable.skip.Goals as goal

pub returns-in-Some : goal.returns-in-Some
returns-in-Some c = λ x sound covers.
    skip_of_period x c.args.matched c.in-Some.period c.in-Some.ensures.third (c.in-Some.ensures.found x sound covers)

pub returns-in-None : goal.returns-in-None
returns-in-None c = λ x sound covers. skip_of_third x c.args.matched (c.in-None.ensures.none x covers)
