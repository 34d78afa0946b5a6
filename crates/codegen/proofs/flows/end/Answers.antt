use Rattle.codegen.specs.Worklist.{items_of}
use Rattle.codegen.proofs.Flowing.{end_gives, end_stays}
use Rattle.codegen.proofs.flows.end.Goals as goal

pub returns-then-flow-clause-back : goal.returns-then-flow-clause-back
returns-then-flow-clause-back c = rw c.in_ok-push_two.ensures (end_gives _ (items_of c.args.worklist.now) c.args.config.now c.in_ok-flow.flow c.top.new.flows c.in_ok-flow.ensures.top c.in_ok-flow.ensures.same c.args.of.now c.if-flow.true)

pub returns-clause-back : goal.returns-clause-back
returns-clause-back c = end_stays _ (items_of c.args.worklist.now) c.args.config.now c.in_ok-flow.flow c.top.new.flows c.in_ok-flow.ensures.top c.in_ok-flow.ensures.same c.args.of.now c.if-flow.false
