use Rattle.json_bridge.proofs.Floats.{given_whole}
use Rattle.json_bridge.proofs.laws.giving_has_no_float.Goals as goal

pub returns : goal.returns
returns c objects value d h = given_whole objects value d h
