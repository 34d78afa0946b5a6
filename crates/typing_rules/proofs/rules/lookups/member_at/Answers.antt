use Rattle.typing_rules.proofs.Members.{read_at}
use Rattle.typing_rules.proofs.rules.lookups.member_at.Goals as goal

pub returns : goal.returns
returns c = read_at c.args.number c.member_type.result.now c.member_type.ensures
