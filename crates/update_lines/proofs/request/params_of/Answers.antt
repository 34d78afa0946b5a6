use Rattle.std.proofs.Common.{codes}
use Rattle.update_lines.proofs.Taking.{member_taken}
use Rattle.update_lines.proofs.request.params_of.Goals as goal

pub returns-in-Object : goal.returns-in-Object
returns-in-Object c = member_taken (codes "params") c.args.line c.in-Object.members _ c.in-Object.is c.remove.ensures.value
