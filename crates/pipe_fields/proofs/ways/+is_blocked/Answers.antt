use Rattle.std.proofs.Common.{rules}
use Rattle.pipe_fields.proofs.WayLemmas.{open_here}
use Rattle.pipe_fields.proofs.ways.+is_blocked.Goals as goal

pub returns-in-None : goal.returns-in-None
returns-in-None t c = open_here _ c.in-Some.name.now c.in-Some.rest.now _ c.in-Some.ensures.cases.0 (search rules) (search rules)
