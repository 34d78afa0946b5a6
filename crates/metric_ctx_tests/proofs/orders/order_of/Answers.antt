use Rattle.std.proofs.Common.{arith}
use Rattle.metric_ctx_tests.proofs.orders.order_of.Goals as goal

pub returns : goal.returns
returns c = (omega arith, (omega arith, (omega arith, (omega arith, tt))))
