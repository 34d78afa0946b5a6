use Rattle.api_list.proofs.Entries.{renewed_surely}
use Rattle.api_list.proofs.entering.renewed.Goals as goal

pub returns : goal.returns
returns c = renewed_surely c.args.heap.now c.renew-renewed.new.self c.args.list c.args.object c.renew-renewed.result c.requires c.renew-renewed.ensures
