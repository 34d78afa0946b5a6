use Rattle.std.proofs.Common.{◌≡◌, ◌≢◌, ap, subst, ◌∙◌, refl}
use Rattle.std.proofs.KnownBytes.{Appends-nil}
use Rattle.outer_io.specs.Faults.{next_count}
use Rattle.outer_io.specs.Reading.{Reader}
use Rattle.outer_io.specs.declared.lines.Line.{Line}
use Rattle.outer_io.specs.declared.lines.Line.TheVariants.{End}
use Rattle.outer_io.proofs.ReadingLemmas.{contradicts}
use Rattle.outer_io.proofs.RunLemmas.{line_read, run_smaller}
use Rattle.line_run.specs.Steps.{ReadsNext}
use Rattle.line_run.proofs.Pass.{pass_behind, pass_none, pass_nothing, pass_given, pass_added, pass_closed, pass_not, pass_unanswered}
use Rattle.line_run.proofs.passing.run_lines.Goals as goal

pub returns-in_default-clause-passes : goal.returns-in_default-clause-passes
returns-in_default-clause-passes g c before is =
    pass_nothing (g.T.Talker.talk c.args.talker.now) before c.args.limit (g.S.Source.left c.args.input.now) (g.K.Sink.held c.args.out.now) (Appends-nil (g.K.Sink.held c.args.out.now))

pub lines-init : goal.lines-init
lines-init g c = (
  ap (λ (r : Reader). r.failed) c.in-Ok.ensures,
  pass_none (g.T.Talker.talk c.args.talker.now) (g.T.Talker.heard c.args.talker.now c.begin-state.result) c.args.front.items c.args.limit c.in-Ok.reader.intake
      (g.S.Source.left c.args.input.now) (g.K.Sink.held c.args.out.now) c.new-replies.result (g.S.Source.faults c.args.input.now) c.begin-state.ensures (ap (λ (r : Reader). r.intake) c.in-Ok.ensures)
      (Appends-nil (g.K.Sink.held c.args.out.now)) c.new-replies.ensures.bytes c.new-replies.ensures.error c.new-replies.ensures.steps,
  refl,
)

pub returns-in-Err-clause-passes : goal.returns-in-Err-clause-passes
returns-in-Err-clause-passes g c before is =
    pass_not (g.T.Talker.talk c.args.talker.now) (g.T.Talker.heard c.args.talker.now c.lines.state) before c.args.limit c.lines.reader.intake c.next_line.new.reader.intake
    (g.S.Source.left c.args.input.now) (g.S.Source.left c.lines.input) (g.S.Source.left c.next_line.new.input) (g.K.Sink.held c.args.out.now) (g.K.Sink.held c.lines.out)
    (g.K.Sink.held c.next_line.new.out) c.lines.replies (g.S.Source.faults c.args.input.now) (g.S.Source.faults c.lines.input) c.in-Err.status
    (pass_behind before is c.lines.invariant.1) c.in-Err.ensures.none (c.next_line.ensures.within c.lines.invariant.1.run.within)

pub returns-then-is_end-clause-passes : goal.returns-then-is_end-clause-passes
returns-then-is_end-clause-passes g c before is =
    let ended : c.in-Ok-next_line.line ≡ End = c.is_end.ensures.0 c.if-is_end.true in
    let next =
    subst
    (λ (line : Line). ReadsNext c.lines.reader.intake c.next_line.new.reader.intake (g.S.Source.left c.lines.input) (g.S.Source.left c.next_line.new.input) (g.K.Sink.held c.lines.out) (g.K.Sink.held c.next_line.new.out) c.lines.replies c.next_line.new.replies line)
    ended c.in-Ok-next_line.ensures.next in
    let given = pass_given c.next_line.new.replies (pass_behind before is c.lines.invariant.1) next.gives next.error next.steps in
    pass_closed before (g.K.Sink.held c.close.new.out) given next.reads (c.next_line.ensures.within c.lines.invariant.1.run.within) c.close.result c.close.ensures.closes

pub returns-then-is_end-clause-read : goal.returns-then-is_end-clause-read
returns-then-is_end-clause-read g c = λ is. absurd (c.close.ensures.reads is)

pub returns-then-is_end-clause-write : goal.returns-then-is_end-clause-write
returns-then-is_end-clause-write g c = λ is.
    c.close.ensures.write is ∙ ap next_count (c.in-Ok-next_line.ensures.write.quiet (λ failed. cc) ∙ c.lines.invariant.2)

pub returns-then-is_end-clause-written : goal.returns-then-is_end-clause-written
returns-then-is_end-clause-written g c = λ not.
    c.close.ensures.written not ∙ c.in-Ok-next_line.ensures.write.quiet (λ failed. cc) ∙ c.lines.invariant.2

pub returns-in-Err-answer-clause-passes : goal.returns-in-Err-answer-clause-passes
returns-in-Err-answer-clause-passes g c before is =
    let some : c.in-Ok-next_line.line ≢ End = λ ended. contradicts c.if-is_end.false (c.is_end.ensures.1 ended) in
    let next = c.in-Ok-next_line.ensures.next in
    let given = pass_given c.next_line.new.replies (pass_behind before is c.lines.invariant.1) next.gives next.error next.steps in
    pass_unanswered (g.T.Talker.talk c.args.talker.now) (g.T.Talker.heard c.args.talker.now c.lines.state) (g.T.Talker.heard c.args.talker.now c.answer.new.state) before c.args.limit
    c.lines.reader.intake c.next_line.new.reader.intake (g.S.Source.left c.args.input.now) (g.S.Source.left c.lines.input) (g.S.Source.left c.next_line.new.input)
    (g.K.Sink.held c.args.out.now) (g.K.Sink.held c.next_line.new.out) (g.K.Sink.held c.answer.new.out) c.next_line.new.replies (g.S.Source.faults c.args.input.now)
    (g.S.Source.faults c.lines.input) (g.S.Source.faults c.next_line.new.input) c.in-Ok-next_line.line c.in-Err-answer.status given some next.reads
    (c.next_line.ensures.within c.lines.invariant.1.run.within) (c.in-Ok-next_line.ensures.read.quiet (λ failed. cc)) c.in-Err-answer.ensures.not

pub lines-smaller : goal.lines-smaller
lines-smaller g c =
    let some : c.in-Ok-next_line.line ≢ End = λ ended. contradicts c.if-is_end.false (c.is_end.ensures.1 ended) in
    let line = line_read c.lines.reader.intake c.next_line.new.reader.intake _ _ c.in-Ok-next_line.line some c.in-Ok-next_line.ensures.next.reads in
    run_smaller line.0 line.1 (c.next_line.ensures.within c.lines.invariant.1.run.within)

pub lines-preserved : goal.lines-preserved
lines-preserved g c =
    let some : c.in-Ok-next_line.line ≢ End = λ ended. contradicts c.if-is_end.false (c.is_end.ensures.1 ended) in
    let next = c.in-Ok-next_line.ensures.next in
    let given = pass_given c.next_line.new.replies c.lines.invariant.1 next.gives next.error next.steps in
    let answers = c.in-Ok-answer.ensures.answers in
    let added =
    pass_added c.in-Ok-next_line.line (g.S.Source.faults c.next_line.new.input) given some next.reads (c.next_line.ensures.within c.lines.invariant.1.run.within)
    (c.in-Ok-next_line.ensures.read.quiet (λ failed. cc)) answers.adds in (
      c.in-Ok-next_line.ensures.failed,
      pass_given c.answer.new.replies added answers.given answers.error answers.steps,
      c.in-Ok-answer.ensures.write.quiet (λ failed. cc) ∙ c.in-Ok-next_line.ensures.write.quiet (λ failed. cc) ∙ c.lines.invariant.2,
    )
