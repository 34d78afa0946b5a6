use Rattle.pl_units.proofs.NumberLemmas.{long_is}
use Rattle.pl_units.proofs.number.parse_long.Goals as goal

pub returns : goal.returns
returns c = rw (← c.units.ensures) (long_is _ _ c.long_in.ensures)
