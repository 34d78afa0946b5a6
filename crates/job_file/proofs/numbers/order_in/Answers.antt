use Rattle.std.proofs.Common.{◌<◌, ◌≤◌, length, arith}
use Rattle.job_file.proofs.Orders.{order_if_short, no_order_if_long}
use Rattle.job_file.proofs.numbers.order_in.Goals as goal

pub returns-then-len-le-ORDER_COUNT-clause-some : goal.returns-then-len-le-ORDER_COUNT-clause-some
returns-then-len-le-ORDER_COUNT-clause-some c =
    let short : length c.args.items.now.items ≤ 100000 = omega (arith, c.len.ensures, c.if-len-le-ORDER_COUNT.true) in
    rw (order_if_short c.args.count c.args.items.now.items short) c.turns_in.ensures.some

pub returns-else-len-le-ORDER_COUNT-clause-none : goal.returns-else-len-le-ORDER_COUNT-clause-none
returns-else-len-le-ORDER_COUNT-clause-none c =
    let long : 100000 < length c.args.items.now.items = omega (arith, c.len.ensures, c.if-len-le-ORDER_COUNT.false) in
    no_order_if_long c.args.count c.args.items.now.items long
