use Rattle.container_calls.proofs.Types.{container_gives}
use Rattle.container_calls.proofs.laws.members_give_types.Goals as goal

pub returns : goal.returns
returns c = λ number member arguments store is h. container_gives store number member arguments is h
