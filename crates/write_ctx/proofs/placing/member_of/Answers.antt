use Rattle.write_ctx.proofs.Taking.{member_taken}
use Rattle.write_ctx.proofs.placing.member_of.Goals as goal

pub returns-in-Object : goal.returns-in-Object
returns-in-Object c = member_taken c.args.name.now c.args.line c.in-Object.members _ c.in-Object.is c.remove.ensures.value
