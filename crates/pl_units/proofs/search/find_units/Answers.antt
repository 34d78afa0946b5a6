use Rattle.pl_units.proofs.PlaceLemmas.{first_place_is}
use Rattle.pl_units.proofs.search.find_units.Goals as goal

pub returns : goal.returns
returns c = first_place_is _ _ _ _ c.find_in.ensures.found c.find_in.ensures.none
