-- A line is bound as its context binds it.
use Rattle.std.proofs.Common.{sym, subst}
use Rattle.json_bridge.specs.Starts.{Start}
use Rattle.document_replies.specs.declared.lines.JobLines.{JobLines}
use Rattle.document_replies.specs.declared.lines.JobLines.TheVariants as l
use Rattle.document_replies.specs.declared.search.NothingKept.{NothingKept}
use Rattle.document_replies.specs.Jobs.{Binds}
use Rattle.document_replies.specs.LinesSeen.{Keeps, start_in}
use Rattle.document_replies.specs.Searches.{documents_of, start_of}
use Rattle.document_replies.proofs.Changing.{bound_alone}
use Rattle.document_replies.proofs.lines.JobLinesLineContext.bind.Goals as goal

pub returns-in-Search : goal.returns-in-Search
returns-in-Search c =
    let line = c.args.line.now in
    let context = c.in-Search.context in
    subst (λ (lines : JobLines). Binds (Keeps lines) c.without_ctx.result (start_in lines line)) (sym c.in-Search.is)
    (bound_alone (λ (from : Start) (kept : NothingKept). Unit {0}) (Keeps (l.Search context)) c.bind.result c.without_ctx.result (start_of (documents_of context) line) (λ from kept. tt)
    c.without_ctx.ensures c.bind.ensures)

pub returns-in-Change : goal.returns-in-Change
returns-in-Change c =
    subst (λ (lines : JobLines). Binds (Keeps lines) c.bind-in-Change.result (start_in lines c.args.line.now)) (sym c.in-Change.is) c.bind-in-Change.ensures
