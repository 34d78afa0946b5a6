use Rattle.json_bridge.proofs.Freezing.{bound_frozen}
use Rattle.json_bridge.proofs.laws.binding_freezes.Goals as goal

pub returns : goal.returns
returns c = bound_frozen
