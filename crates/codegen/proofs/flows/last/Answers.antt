use Rattle.std.proofs.Common.{sym, ◌∙◌}
use Rattle.codegen.specs.Worklist.{items_of}
use Rattle.codegen.proofs.Flowing.{last_goes, last_stays, last_none}
use Rattle.codegen.proofs.flows.last.Goals as goal

pub returns-then-turns_on-clause-back : goal.returns-then-turns_on-clause-back
returns-then-turns_on-clause-back c = rw c.in_ok-push_two.ensures (rw c.in-Some.is (last_goes _ (items_of c.args.worklist.now) c.args.config.now c.in_ok-flow.flow c.top.new.flows c.in_ok-flow.ensures.top c.in_ok-flow.ensures.same _ c.args.label c.in_ok-represented_as.ensures (sym c.turns_on.ensures ∙ c.if-turns_on.true)))

pub returns-clause-back : goal.returns-clause-back
returns-clause-back c = rw c.in-Some.is (last_stays _ (items_of c.args.worklist.now) c.args.config.now c.in_ok-flow.flow c.top.new.flows c.in_ok-flow.ensures.top c.in_ok-flow.ensures.same _ c.args.label (sym c.turns_on.ensures ∙ c.if-turns_on.false))

pub returns-in_default-clause-back : goal.returns-in_default-clause-back
returns-in_default-clause-back c = rw c.in_default.is (last_none _ (items_of c.args.worklist.now) c.args.config.now c.in_ok-flow.flow c.top.new.flows c.in_ok-flow.ensures.top c.in_ok-flow.ensures.same c.args.label)
