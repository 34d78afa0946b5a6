use Rattle.json_bridge.specs.Giving.{AValue, node_at}
use Rattle.json_bridge.proofs.without.map_given.Goals as goal

pub returns-in-Err-clause-error : goal.returns-in-Err-clause-error
returns-in-Err-clause-error c = c.first_fault.ensures (λ value. node_at 99 c.args.heap.now.objects (AValue value)) c.args.nodes.now c.in-Err.ensures.error
