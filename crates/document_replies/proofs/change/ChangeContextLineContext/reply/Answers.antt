-- The reply is told of the `ctx` that is kept of the start.
use Rattle.std.proofs.Common.{◌≡◌, IfOk, string_bytes, ap, ◌∙◌, subst}
use Rattle.serde_json.specs.Data.{Data}
use Rattle.serde_json.specs.Written.{has_float}
use Rattle.object_values.specs.declared.value.Value.{Value}
use Rattle.write_ctx.specs.Replies.{reply_of}
use Rattle.json_replies.specs.Replies.{is_error, line_of}
use Rattle.json_replies.specs.Showing.{shown_reply}
use Rattle.json_replies.specs.declared.line.Line.{Line}
use Rattle.document_replies.proofs.Changing.{kept_line}
use Rattle.document_replies.proofs.change.ChangeContextLineContext.reply.Goals as goal

pub returns-clause-text : goal.returns-clause-text
returns-clause-text c =
    let o = c.args.outcome.now in
    let kind = c.args.self.now.kind in
    let shown : Data → Data = shown_reply c.args.allow.now c.args.keys o.reached o.steps in
    kept_line c.shown_line.result (λ (line : Line) (ctx : Value). string_bytes line.text ≡ line_of (shown (reply_of kind ctx o.end o.heap.objects))) c.args.kept
    (subst (λ (d : Data). IfOk c.shown_line.result (λ (line : Line). string_bytes line.text ≡ line_of (shown d))) c.in_ok-told.ensures
    (c.shown_line.ensures.text (ap has_float c.in_ok-told.ensures ∙ c.replies_have_no_float.ensures kind c.args.kept o.end o.heap.objects)))

pub returns-clause-error : goal.returns-clause-error
returns-clause-error c =
    let o = c.args.outcome.now in
    let kind = c.args.self.now.kind in
    let shown : Data → Data = shown_reply c.args.allow.now c.args.keys o.reached o.steps in
    kept_line c.shown_line.result (λ (line : Line) (ctx : Value). line.is_error ≡ is_error (shown (reply_of kind ctx o.end o.heap.objects))) c.args.kept
    (subst (λ (d : Data). IfOk c.shown_line.result (λ (line : Line). line.is_error ≡ is_error (shown d))) c.in_ok-told.ensures c.shown_line.ensures.error)
