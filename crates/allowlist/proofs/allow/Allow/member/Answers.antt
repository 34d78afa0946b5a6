use Rattle.allowlist.proofs.Unique.{all_in_list}
use Rattle.allowlist.proofs.allow.Allow.member.Goals as goal

pub returns-clause-within : goal.returns-clause-within
returns-clause-within c = all_in_list c.args.self.now c.args.class _ c.args.arity c.found.result c.found.ensures
