use Rattle.pl_units.proofs.PlaceLemmas.{last_place_is}
use Rattle.pl_units.proofs.text.UText.rfind.Goals as goal

pub returns-clause-value : goal.returns-clause-value
returns-clause-value c =
    rw (← c.units.ensures, ← c.units-2.ensures) (last_place_is _ _ _ c.rfind_in.ensures.found c.rfind_in.ensures.none)
