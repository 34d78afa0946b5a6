use Rattle.metric_ctx.specs.Lines.{shard_key}
use Rattle.metric_ctx.proofs.Splitting.{taken_out}
use Rattle.metric_ctx.proofs.line.document_of.Goals as goal

pub returns-in-Object : goal.returns-in-Object
returns-in-Object c = taken_out shard_key c.args.json c.in-Object.members c.remove.new.self c.in-Object.is c.remove.ensures.entries c.remove.ensures.updates.1
