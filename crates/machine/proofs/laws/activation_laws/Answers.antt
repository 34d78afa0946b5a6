use Rattle.machine.proofs.Turning.{turns_add, comes_to_its_end}
use Rattle.machine.proofs.Fitted.{later_fits}
use Rattle.machine.proofs.laws.activation_laws.Goals as goal

pub returns-clause-turns : goal.returns-clause-turns
returns-clause-turns c = turns_add

pub returns-clause-ends : goal.returns-clause-ends
returns-clause-ends c = comes_to_its_end

pub returns-clause-fit : goal.returns-clause-fit
returns-clause-fit c = later_fits
