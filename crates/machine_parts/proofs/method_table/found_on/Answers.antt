use Rattle.machine_parts.proofs.Methods.{first_counted, first_uncounted}
use Rattle.machine_parts.proofs.method_table.found_on.Goals as goal

pub returns-then-arguments-count : goal.returns-then-arguments-count
returns-then-arguments-count c =
    first_counted c.args.heap.now.objects c.args.methods.now c.args.count c.args.values.now c.receiver-item.result c.target_on.result c.in-len1-up.len_at_least c.receiver-item.is c.if-arguments-count.true c.target_on.ensures

pub returns-else-arguments-count : goal.returns-else-arguments-count
returns-else-arguments-count c = first_uncounted c.args.heap.now.objects c.args.methods.now c.args.count c.args.values.now c.if-arguments-count.false
