use Rattle.std.proofs.Common.{drop}
use Rattle.update_replies.proofs.Loops.{HistoryOn}
use Rattle.update_replies.proofs.stores.history_reply.Given as goal

-- what is told so far, and behind it the entries that are left, is all
abbrev pub invariant-loop-entry : goal.invariant-loop-entry
invariant-loop-entry l = HistoryOn l.history (drop l.entry-index l.history) l.items.items
