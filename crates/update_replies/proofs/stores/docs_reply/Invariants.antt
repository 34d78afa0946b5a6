use Rattle.std.proofs.Common.{drop}
use Rattle.serde_json.specs.View.{members_view}
use Rattle.update_replies.proofs.Loops.{RepliesOn}
use Rattle.update_replies.proofs.stores.docs_reply.Given as goal

-- the replies so far, and behind them those to the documents that are left, are all
abbrev pub invariant-loop-doc : goal.invariant-loop-doc
invariant-loop-doc l = RepliesOn l.docs (drop l.doc-index l.docs) (members_view l.members.entries)
