use Rattle.container_parts.proofs.Renewing.{placed}
use Rattle.container_ops.proofs.looping.place_at.Goals as goal

pub returns : goal.returns
returns c = placed c.args.heap.now c.renew-renewed.new.self c.args.id c.args.over c.args.cursor c.args.seen c.args.last c.renew-renewed.result c.renew-renewed.ensures
