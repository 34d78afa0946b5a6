use Rattle.pl_units.proofs.PlaceLemmas.{first_place_is}
use Rattle.pl_units.proofs.text.UText.find.Goals as goal

pub returns-clause-value : goal.returns-clause-value
returns-clause-value c =
    rw (← c.units.ensures, ← c.units-2.ensures) (first_place_is _ _ _ _ c.find_in.ensures.found c.find_in.ensures.none)
