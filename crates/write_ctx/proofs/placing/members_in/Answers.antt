use Rattle.write_ctx.proofs.Taking.{members_taken}
use Rattle.write_ctx.proofs.placing.members_in.Goals as goal

pub returns-in-Object : goal.returns-in-Object
returns-in-Object c = members_taken c.args.value c.in-Object.members c.in-Object.is
