use Rattle.std.proofs.Common.{arith}
use Rattle.codegen.specs.Worklist.{items_of}
use Rattle.codegen.proofs.Flowing.{skip_jumps, skip_stays}
use Rattle.codegen.proofs.flows.skip.Goals as goal

pub returns-then-flow-clause-back : goal.returns-then-flow-clause-back
returns-then-flow-clause-back c = rw c.in_ok-push.ensures (skip_jumps _ (items_of c.args.worklist.now) c.args.config.now c.in_ok-flow.flow c.top.new.flows c.in_ok-flow.ensures.top c.in_ok-flow.ensures.same c.args.label c.if-flow.true)

pub returns-clause-back : goal.returns-clause-back
returns-clause-back c = skip_stays _ (items_of c.args.worklist.now) c.args.config.now c.in_ok-flow.flow c.top.new.flows c.in_ok-flow.ensures.top c.in_ok-flow.ensures.same c.args.label c.if-flow.false

pub returns-then-flow-clause-falls : goal.returns-then-flow-clause-falls
returns-then-flow-clause-falls c = rw c.in_ok-push.ensures (omega arith)
