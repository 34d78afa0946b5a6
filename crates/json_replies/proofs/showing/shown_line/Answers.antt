-- What is shown beside a reply has no float.
use Rattle.std.proofs.Common.{◌≡◌, IfOk, string_bytes, ap, ◌∙◌, subst}
use Rattle.serde_json.specs.Data.{Data}
use Rattle.serde_json.specs.View.{view}
use Rattle.serde_json.specs.Written.{has_float}
use Rattle.json_replies.specs.Replies.{is_error, line_of}
use Rattle.json_replies.specs.declared.line.Line.{Line}
use Rattle.json_replies.proofs.Shown.{shown_has_none}
use Rattle.json_replies.proofs.showing.shown_line.Goals as goal

pub returns-clause-text : goal.returns-clause-text
returns-clause-text c = λ none.
    subst (λ (d : Data). IfOk c.line_of_reply.result (λ (line : Line). string_bytes line.text ≡ line_of d)) c.in_ok-json.ensures
    (c.line_of_reply.ensures.text (ap has_float c.in_ok-json.ensures
    ∙ shown_has_none c.args.allow.now c.args.keys c.args.outcome.now.reached c.args.outcome.now.steps (view c.args.reply) none))

pub returns-clause-error : goal.returns-clause-error
returns-clause-error c =
    subst (λ (d : Data). IfOk c.line_of_reply.result (λ (line : Line). line.is_error ≡ is_error d)) c.in_ok-json.ensures c.line_of_reply.ensures.error
