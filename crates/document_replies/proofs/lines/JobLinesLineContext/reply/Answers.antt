-- A run is answered as its context answers it.
use Rattle.std.proofs.Common.{◌≡◌, IfOk, string_bytes, sym, subst}
use Rattle.json_bridge.specs.Starts.{Start}
use Rattle.json_replies.specs.Replies.{is_error, line_of}
use Rattle.json_replies.specs.Showing.{shown_reply}
use Rattle.json_replies.specs.declared.line.Line.{Line}
use Rattle.document_replies.specs.declared.lines.JobLines.{JobLines}
use Rattle.document_replies.specs.Jobs.{ended_of}
use Rattle.document_replies.specs.LinesSeen.{Keeps, answer_in}
use Rattle.document_replies.proofs.lines.JobLinesLineContext.reply.Goals as goal

pub returns-in-Search-clause-text : goal.returns-in-Search-clause-text
returns-in-Search-clause-text c =
    let o = c.args.outcome.now in
    subst
    (λ (lines : JobLines). IfOk c.reply.result (λ (line : Line). (from : Start) → Keeps lines from c.args.kept
    → string_bytes line.text ≡ line_of (shown_reply c.args.allow.now c.args.keys o.reached o.steps (answer_in lines from (ended_of o))))) (sym c.in-Search.is) c.reply.ensures.text

pub returns-in-Search-clause-error : goal.returns-in-Search-clause-error
returns-in-Search-clause-error c =
    let o = c.args.outcome.now in
    subst
    (λ (lines : JobLines). IfOk c.reply.result (λ (line : Line). (from : Start) → Keeps lines from c.args.kept
    → line.is_error ≡ is_error (shown_reply c.args.allow.now c.args.keys o.reached o.steps (answer_in lines from (ended_of o))))) (sym c.in-Search.is) c.reply.ensures.error

pub returns-in-Change-clause-text : goal.returns-in-Change-clause-text
returns-in-Change-clause-text c =
    let o = c.args.outcome.now in
    subst
    (λ (lines : JobLines). IfOk c.reply-in-Change.result (λ (line : Line). (from : Start) → Keeps lines from c.args.kept
    → string_bytes line.text ≡ line_of (shown_reply c.args.allow.now c.args.keys o.reached o.steps (answer_in lines from (ended_of o))))) (sym c.in-Change.is) c.reply-in-Change.ensures.text

pub returns-in-Change-clause-error : goal.returns-in-Change-clause-error
returns-in-Change-clause-error c =
    let o = c.args.outcome.now in
    subst
    (λ (lines : JobLines). IfOk c.reply-in-Change.result (λ (line : Line). (from : Start) → Keeps lines from c.args.kept
    → line.is_error ≡ is_error (shown_reply c.args.allow.now c.args.keys o.reached o.steps (answer_in lines from (ended_of o))))) (sym c.in-Change.is) c.reply-in-Change.ensures.error
