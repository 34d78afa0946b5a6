use Rattle.arithmetic.proofs.Division.{divides, stays, at_zero}
use Rattle.arithmetic.proofs.laws.arithmetic_laws.Goals as goal

pub returns : goal.returns
returns c = record { division = divides; range = stays; zero = at_zero }
