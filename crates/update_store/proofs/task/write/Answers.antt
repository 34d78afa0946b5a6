use Rattle.std.proofs.Common.{ℕ, IfOk, subst, subst₂}
use Rattle.serde_json.specs.View.{view}
use Rattle.update_store.specs.declared.store.CommitErr.{CommitErr}
use Rattle.update_store.specs.Committing.{CommitsNot}
use Rattle.update_store.specs.Documents.{change_view, version_at}
use Rattle.update_store.specs.Running.{BeginsAgain}
use Rattle.update_store.proofs.RunLemmas.{commits_so, conflicts_so, ok_as}
use Rattle.update_store.proofs.task.write.Goals as goal

pub returns-in_ok-reply-in-Ok : goal.returns-in_ok-reply-in-Ok
returns-in_ok-reply-in-Ok c =
    commits_so c.args.number c.args.id.now c.args.version (change_view c.args.change) c.args.retries.now c.args.store.now c.commit.new.self c.in-Ok.next c.op_of-op.result.now
    (view c.in_ok-reply-in-Ok.reply) c.in-Ok.ensures.committed c.op_of-op.ensures c.in_ok-reply-in-Ok.ensures

pub returns-in-Err-Conflict : goal.returns-in-Err-Conflict
returns-in-Err-Conflict c =
    ok_as c.again.result
    (λ phase begins. conflicts_so c.args.number c.args.id.now c.args.version (change_view c.args.change) c.args.retries.now c.again.new.retries c.args.store.now c.commit.new.self c.in-Err-Conflict.read
    c.in-Err-Conflict.found phase (subst (λ (err : CommitErr). CommitsNot c.args.version (version_at c.args.id.now c.args.store.now.documents) c.args.store.now c.commit.new.self err) c.in-Err-Conflict.field-0-is c.in-Err-Conflict.ensures.not) begins)
    (subst₂ (λ (read found : ℕ). IfOk c.again.result (BeginsAgain c.args.retries.now c.again.new.retries read found)) c.in-Err-Conflict.read-is c.in-Err-Conflict.found-is c.again.ensures)
