use Rattle.json_bridge.proofs.Returning.{bound_back}
use Rattle.json_bridge.proofs.laws.bound_is_given_back.Goals as goal

pub returns : goal.returns
returns c frozen objects d r s h = bound_back frozen objects d r s h
