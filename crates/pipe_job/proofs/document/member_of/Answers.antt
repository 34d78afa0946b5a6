use Rattle.pipe_job.proofs.Telling.{member_taken}
use Rattle.pipe_job.proofs.document.member_of.Goals as goal

pub returns-in-Object : goal.returns-in-Object
returns-in-Object c = member_taken c.args.name.now c.args.json c.in-Object.members _ c.in-Object.is c.remove.ensures.value
