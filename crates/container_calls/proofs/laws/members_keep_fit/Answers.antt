use Rattle.container_calls.proofs.Keeping.{container_fits}
use Rattle.container_calls.proofs.Leaving.{container_leaves}
use Rattle.container_calls.proofs.There.{renewal_leaves}
use Rattle.container_calls.proofs.laws.members_keep_fit.Goals as goal

pub returns-clause-fit : goal.returns-clause-fit
returns-clause-fit c = container_fits

pub returns-clause-objects : goal.returns-clause-objects
returns-clause-objects c = λ number arguments store. container_leaves store number arguments

pub returns-clause-renewals : goal.returns-clause-renewals
returns-clause-renewals c = renewal_leaves
