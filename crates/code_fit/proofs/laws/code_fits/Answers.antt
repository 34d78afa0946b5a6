use Rattle.code_fit.proofs.Codes.{codes_fit}
use Rattle.code_fit.proofs.Steps.{starts_fit_all, steps_fit, runs_fit}
use Rattle.code_fit.proofs.laws.code_fits.Goals as goal

pub returns-clause-starts : goal.returns-clause-starts
returns-clause-starts c = starts_fit_all

pub returns-clause-steps : goal.returns-clause-steps
returns-clause-steps c = steps_fit

pub returns-clause-runs : goal.returns-clause-runs
returns-clause-runs c = runs_fit

pub returns-clause-codes : goal.returns-clause-codes
returns-clause-codes c = codes_fit
