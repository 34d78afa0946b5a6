-- What a line is bound to, and its `ctx`.
use Rattle.std.proofs.Common.{Ok, Err}
use Rattle.document_replies.specs.Changes.{change_start}
use Rattle.document_replies.specs.LinesSeen.{changes_of}
use Rattle.document_replies.proofs.Changing.{answered_change, ctx_kept}
use Rattle.document_replies.proofs.change.ChangeContextLineContext.bind.Goals as goal

pub returns-in-Ok : goal.returns-in-Ok
returns-in-Ok c =
    let changes = changes_of c.args.self.now in
    ctx_kept c.in-Ok.bound c.with_ctx.result (change_start changes c.args.line.now) c.with_ctx.ensures.bound c.with_ctx.ensures.kept c.with_ctx.ensures.error
    (answered_change changes c.args.line.now (Ok c.in-Ok.bound) c.in-Ok.ensures.text c.in-Ok.ensures.bytes)

pub returns-in-Err : goal.returns-in-Err
returns-in-Err c = answered_change (changes_of c.args.self.now) c.args.line.now (Err c.in-Err.error) c.in-Err.ensures.text c.in-Err.ensures.bytes
