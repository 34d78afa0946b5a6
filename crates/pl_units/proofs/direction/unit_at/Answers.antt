use Rattle.pl_units.specs.Periods.{unit_of}
use Rattle.pl_units.proofs.direction.unit_at.Goals as goal

pub returns-in-Forward : goal.returns-in-Forward
unfolding unit_of
returns-in-Forward c = rw c.in-Forward.is

pub returns-in-Backward : goal.returns-in-Backward
unfolding unit_of
returns-in-Backward c = rw c.in-Backward.is
