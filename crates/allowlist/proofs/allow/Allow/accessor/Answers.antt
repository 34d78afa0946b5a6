use Rattle.allowlist.proofs.Unique.{all_in_list}
use Rattle.allowlist.proofs.allow.Allow.accessor.Goals as goal

pub returns-clause-within : goal.returns-clause-within
returns-clause-within c = all_in_list c.args.self.now c.args.class _ _ c.found.result c.found.ensures
