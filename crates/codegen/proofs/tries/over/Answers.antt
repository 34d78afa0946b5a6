use Rattle.std.proofs.Common.{sym, arith}
use Rattle.codegen.specs.Worklist.{items_of}
use Rattle.codegen.proofs.Handled.{over_more, over_none, over_more_keeps, over_none_keeps}
use Rattle.codegen.proofs.tries.over.Goals as goal

pub returns-clause-back : goal.returns-clause-back
returns-clause-back c = rw c.in_ok-push.ensures (over_more _ (items_of c.args.worklist.now) c.args.config.now c.args.catches.now c.args.at _ _ (sym c.in-Some.ensures.value))

pub returns-in_default-clause-back : goal.returns-in_default-clause-back
returns-in_default-clause-back c = over_none _ (items_of c.args.worklist.now) c.args.config.now c.args.catches.now c.args.at _ (sym c.in_default.ensures.value)

pub returns-clause-sound : goal.returns-clause-sound
returns-clause-sound c = rw c.in_ok-push.ensures (over_more_keeps _ (items_of c.args.worklist.now) c.args.config.now c.args.catches.now c.args.at _ _ (sym c.in-Some.ensures.value))

pub returns-in_default-clause-sound : goal.returns-in_default-clause-sound
returns-in_default-clause-sound c = over_none_keeps _ (items_of c.args.worklist.now) c.args.config.now c.args.catches.now c.args.at _ (sym c.in_default.ensures.value)

pub returns-clause-falls : goal.returns-clause-falls
returns-clause-falls c = rw c.in_ok-push.ensures (omega arith)
