use Rattle.member_calls.proofs.Types.{act_gives}
use Rattle.member_calls.proofs.laws.members_give_types.Goals as goal

pub returns : goal.returns
returns c = act_gives
