use Rattle.std.proofs.Common.{◌≡◌, Ok, Err}
use Rattle.json_bridge.specs.Starts.{start_view, syntax, number_outside, field}
use Rattle.document_replies.specs.Jobs.{by_start, context_of}
use Rattle.document_replies.proofs.Replied.{not_bound, replied}
use Rattle.document_replies.proofs.job.DocumentJob.reply_to_document.Goals as goal

pub reply_to_bound-requires-clause-takes : goal.reply_to_bound-requires-clause-takes
reply_to_bound-requires-clause-takes g c = c.requires c.args.line.now (start_view c.in-Ok.found.bound) c.in-Ok.ensures.0

pub reply_to_bound-requires-clause-keeps : goal.reply_to_bound-requires-clause-keeps
reply_to_bound-requires-clause-keeps g c = c.in-Ok.ensures.1

pub returns-in-Ok : goal.returns-in-Ok
returns-in-Ok g c =
    let start = g.C.LineContext.start c.args.self.now.context in
    let context = context_of start (g.C.LineContext.answer c.args.self.now.context) c.args.self.now.keys in
    replied (g.D.DocumentScript.list c.args.self.now.script) context (by_start (g.D.DocumentScript.ends c.args.self.now.script)) (start c.args.line.now) (Ok (start_view c.in-Ok.found.bound)) c.reply_to_bound.result c.in-Ok.ensures.0
    c.reply_to_bound.ensures

pub returns-in-Err-Syntax : goal.returns-in-Err-Syntax
returns-in-Err-Syntax g c =
    let start = g.C.LineContext.start c.args.self.now.context in
    let context = context_of start (g.C.LineContext.answer c.args.self.now.context) c.args.self.now.keys in
    let wrong : start c.args.line.now ≡ Err syntax =
    rw c.in-Err-Syntax.field-0-is at (not_bound (g.C.LineContext.keeps c.args.self.now.context) c.in-Err-Syntax.field-0 (start c.args.line.now) c.in-Err-Syntax.ensures) in
    replied (g.D.DocumentScript.list c.args.self.now.script) context (by_start (g.D.DocumentScript.ends c.args.self.now.script)) (start c.args.line.now) (Err syntax) c.reply_to_fault.result wrong c.reply_to_fault.ensures

pub returns-in-Err-Number : goal.returns-in-Err-Number
returns-in-Err-Number g c =
    let start = g.C.LineContext.start c.args.self.now.context in
    let context = context_of start (g.C.LineContext.answer c.args.self.now.context) c.args.self.now.keys in
    let wrong : start c.args.line.now ≡ Err number_outside =
    rw c.in-Err-Number.field-0-is at (not_bound (g.C.LineContext.keeps c.args.self.now.context) c.in-Err-Number.field-0 (start c.args.line.now) c.in-Err-Number.ensures) in
    replied (g.D.DocumentScript.list c.args.self.now.script) context (by_start (g.D.DocumentScript.ends c.args.self.now.script)) (start c.args.line.now) (Err number_outside) c.reply_to_fault-in-Err-Number.result wrong
    c.reply_to_fault-in-Err-Number.ensures

pub returns-in-Err-Field : goal.returns-in-Err-Field
returns-in-Err-Field g c =
    let start = g.C.LineContext.start c.args.self.now.context in
    let context = context_of start (g.C.LineContext.answer c.args.self.now.context) c.args.self.now.keys in
    let wrong : start c.args.line.now ≡ Err field =
    rw c.in-Err-Field.field-0-is at (not_bound (g.C.LineContext.keeps c.args.self.now.context) c.in-Err-Field.field-0 (start c.args.line.now) c.in-Err-Field.ensures) in
    replied (g.D.DocumentScript.list c.args.self.now.script) context (by_start (g.D.DocumentScript.ends c.args.self.now.script)) (start c.args.line.now) (Err field) c.reply_to_fault-in-Err-Field.result wrong
    c.reply_to_fault-in-Err-Field.ensures
