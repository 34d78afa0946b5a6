use Rattle.std.proofs.Common.{arith}
use Rattle.serde_json.specs.View.{members_view}
use Rattle.update_replies.proofs.Loops.{replies_all, replies_next}
use Rattle.update_replies.proofs.stores.docs_reply.Goals as goal

pub returns : goal.returns
returns c = replies_all (members_view c.loop-doc.members.entries) c.args.docs.now c.loop-doc.doc-index (omega (arith, c.loop-doc-test.false)) c.loop-doc.invariant

pub loop-doc-preserved : goal.loop-doc-preserved
loop-doc-preserved c =
    replies_next (members_view c.loop-doc.members.entries) (members_view c.put_reply.new.members.entries) c.args.docs.now c.loop-doc.doc-index c.doc-item.result (omega (arith, c.loop-doc-test.true))
    c.doc-item.is c.loop-doc.invariant c.in_ok-put_reply.ensures
