use Rattle.std.proofs.Common.{arith}
use Rattle.update_replies.proofs.Loops.{any_item, history_all, history_next}
use Rattle.update_replies.proofs.stores.history_reply.Goals as goal

pub returns : goal.returns
returns c = history_all c.loop-entry.items.items c.args.history.now c.loop-entry.entry-index (omega (arith, c.loop-entry-test.false)) c.loop-entry.invariant

pub loop-entry-preserved : goal.loop-entry-preserved
loop-entry-preserved c =
    history_next c.loop-entry.items.items c.push_entry.new.items.items c.args.history.now c.loop-entry.entry-index _ (omega (arith, c.loop-entry-test.true))
    (any_item c.args.history.now c.loop-entry.entry-index _ _ (omega (arith, c.loop-entry-test.true)))
    c.loop-entry.invariant c.in_ok-push_entry.ensures
