use Rattle.pl_units.proofs.NumberLemmas.{int_is}
use Rattle.pl_units.proofs.number.parse_int.Goals as goal

pub returns : goal.returns
returns c = rw (← c.units.ensures) (int_is _ _ c.int_in.ensures)
