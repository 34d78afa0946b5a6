-- The reply to a search has no float.
use Rattle.std.proofs.Common.{◌≡◌, IfOk, string_bytes, ap, ◌∙◌, subst}
use Rattle.serde_json.specs.Data.{Data}
use Rattle.serde_json.specs.Written.{has_float}
use Rattle.json_replies.specs.Replies.{is_error, line_of}
use Rattle.json_replies.specs.Showing.{shown_reply}
use Rattle.json_replies.specs.declared.line.Line.{Line}
use Rattle.json_replies.proofs.Lines.{search_reply_has_none}
use Rattle.json_replies.proofs.showing.search_shown_line.Goals as goal

pub returns-clause-text : goal.returns-clause-text
returns-clause-text c =
    let o = c.args.outcome.now in
    subst (λ (d : Data). IfOk c.shown_line.result (λ (line : Line). string_bytes line.text ≡ line_of (shown_reply c.args.allow.now c.args.keys o.reached o.steps d))) c.in_ok-reply.ensures
    (c.shown_line.ensures.text (ap has_float c.in_ok-reply.ensures ∙ search_reply_has_none c.args.kind o.end o.heap.objects))

pub returns-clause-error : goal.returns-clause-error
returns-clause-error c =
    let o = c.args.outcome.now in
    subst (λ (d : Data). IfOk c.shown_line.result (λ (line : Line). line.is_error ≡ is_error (shown_reply c.args.allow.now c.args.keys o.reached o.steps d))) c.in_ok-reply.ensures c.shown_line.ensures.error
