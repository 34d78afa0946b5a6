use Rattle.function_calls.proofs.Renewing.{renewed_else, renewed_then}
use Rattle.function_calls.proofs.taking.renew.Goals as goal

pub returns-then-renew : goal.returns-then-renew
returns-then-renew c = renewed_then c.args.heap.now c.renew.new.self c.args.id c.args.iface c.args.after c.renew.result c.requires c.renew.ensures c.if-renew.true

pub returns-else-renew : goal.returns-else-renew
returns-else-renew c = absurd (renewed_else c.args.heap.now c.renew.new.self c.args.id c.args.iface c.args.after c.renew.result c.requires c.renew.ensures c.if-renew.false)
