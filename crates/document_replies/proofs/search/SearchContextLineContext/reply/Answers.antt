-- The reply to a search is the same for every start.
use Rattle.std.proofs.Common.{◌≡◌, string_bytes}
use Rattle.json_replies.specs.Replies.{is_error, line_of}
use Rattle.json_replies.specs.Searching.{search_reply_of}
use Rattle.json_replies.specs.Showing.{shown_reply}
use Rattle.json_replies.specs.declared.line.Line.{Line}
use Rattle.document_replies.proofs.Replied.{whatever_start}
use Rattle.document_replies.proofs.search.SearchContextLineContext.reply.Goals as goal

pub returns-clause-text : goal.returns-clause-text
returns-clause-text c =
    let o = c.args.outcome.now in
    whatever_start c.shown_reply_line.result
    (λ (line : Line). string_bytes line.text ≡ line_of (shown_reply c.args.allow.now c.args.keys o.reached o.steps (search_reply_of c.args.self.now.kind o.end o.heap.objects))) c.shown_reply_line.ensures.text

pub returns-clause-error : goal.returns-clause-error
returns-clause-error c =
    let o = c.args.outcome.now in
    whatever_start c.shown_reply_line.result
    (λ (line : Line). line.is_error ≡ is_error (shown_reply c.args.allow.now c.args.keys o.reached o.steps (search_reply_of c.args.self.now.kind o.end o.heap.objects))) c.shown_reply_line.ensures.error
