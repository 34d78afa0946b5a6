use Rattle.member_calls.proofs.Keeping.{act_fits}
use Rattle.member_calls.proofs.Leaving.{act_leaves}
use Rattle.member_calls.proofs.laws.members_keep_fit.Goals as goal

pub returns-clause-fit : goal.returns-clause-fit
returns-clause-fit c = act_fits

pub returns-clause-objects : goal.returns-clause-objects
returns-clause-objects c = act_leaves
