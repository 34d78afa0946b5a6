use Rattle.container_outcomes.proofs.Settling.{settled}
use Rattle.container_outcomes.proofs.laws.outcomes_keep_fit.Goals as goal

pub returns : goal.returns
returns c = settled
