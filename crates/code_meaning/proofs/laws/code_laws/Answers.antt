use Rattle.code_meaning.proofs.Steps.{runs_on, ends_once}
use Rattle.code_meaning.proofs.laws.code_laws.Goals as goal

pub returns-clause-steps : goal.returns-clause-steps
returns-clause-steps c = runs_on

pub returns-clause-ends : goal.returns-clause-ends
returns-clause-ends c = ends_once
