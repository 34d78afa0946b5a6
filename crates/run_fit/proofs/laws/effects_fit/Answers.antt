use Rattle.run_fit.proofs.Effects.{beginnings_fit, outcomes_fit, casts_fit, concatenation_fits, equality_fits, members_fit, throwing_fits}
use Rattle.run_fit.proofs.laws.effects_fit.Goals as goal

pub returns-clause-beginnings : goal.returns-clause-beginnings
returns-clause-beginnings c = beginnings_fit

pub returns-clause-outcomes : goal.returns-clause-outcomes
returns-clause-outcomes c = outcomes_fit

pub returns-clause-casts : goal.returns-clause-casts
returns-clause-casts c = casts_fit

pub returns-clause-concatenation : goal.returns-clause-concatenation
returns-clause-concatenation c = concatenation_fits

pub returns-clause-equality : goal.returns-clause-equality
returns-clause-equality c = equality_fits

pub returns-clause-members : goal.returns-clause-members
returns-clause-members c = members_fit

pub returns-clause-throwing : goal.returns-clause-throwing
returns-clause-throwing c = throwing_fits
