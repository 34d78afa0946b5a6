-- Each clause is a lemma.
use Rattle.outer_io.proofs.StepLemmas.{steps-of, told-of, settled-after}
use Rattle.outer_io.proofs.laws.step_laws.Goals as goal

pub returns-clause-steps : goal.returns-clause-steps
returns-clause-steps c = steps-of

pub returns-clause-told : goal.returns-clause-told
returns-clause-told c = told-of

pub returns-clause-settled : goal.returns-clause-settled
returns-clause-settled c = settled-after
