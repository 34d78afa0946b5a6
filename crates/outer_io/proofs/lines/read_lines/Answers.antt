use Rattle.std.proofs.Common.{◌≡◌, ◌≢◌, ◌++◌, [], ◌∷◌, Ok, Err, ap, subst}
use Rattle.std.proofs.lemmas.Result.{err_from_is_err_and}
use Rattle.outer_io.specs.Reading.{Reads, Reader}
use Rattle.outer_io.specs.Lines.{input_line}
use Rattle.outer_io.specs.Runs.{shown}
use Rattle.outer_io.specs.declared.lines.Line.TheVariants.{End}
use Rattle.outer_io.specs.declared.lines.ReadErr.TheVariants.{NoMemory}
use Rattle.outer_io.proofs.ReadingLemmas.{contradicts}
use Rattle.outer_io.proofs.RunLemmas.{reads-all, run_none, run_line, run_smaller, run_some, run_err, run_end, gives, line_read, shown-push}
use Rattle.outer_io.proofs.lines.read_lines.Goals as goal

pub lines-init : goal.lines-init
lines-init g c = (
  ap (λ (r : Reader). r.failed) c.in_ok-reader.ensures,
  run_none c.args.limit c.in_ok-reader.reader.intake _ _ _ (ap (λ (r : Reader). r.intake) c.in_ok-reader.ensures),
)

pub returns-in_err-line-clause-given : goal.returns-in_err-line-clause-given
returns-in_err-line-clause-given g c =
    let r = c.lines.invariant.1 in
    let exit = err_from_is_err_and c.from_residual-in_err-line.result c.from_residual-in_err-line.ensures.1 in
    rw (exit.1, exit.2)
    (gives (Err c.in_err-line.field-0.0) r
    (run_err c.next.new.self.intake (g.S.Source.left c.next.new.source) c.in_err-line.field-0.0 r c.next.ensures.within c.in_err-line.ensures.read))

pub returns-then-is_end-clause-given : goal.returns-then-is_end-clause-given
returns-then-is_end-clause-given g c =
    let r = c.lines.invariant.1 in
    let ended : c.in_ok-line.line ≡ End = c.is_end.ensures.0 c.if-is_end.true in
    let reads =
    subst (λ line. Reads c.lines.reader.intake c.next.new.self.intake (g.S.Source.left c.lines.source) (g.S.Source.left c.next.new.source) (Ok line)) ended c.in_ok-line.ensures.read in
    gives (Ok tt) r (run_end r c.next.ensures.within reads)

pub lines-smaller : goal.lines-smaller
lines-smaller g c =
    let some : c.in_ok-line.line ≢ End = λ ended. contradicts c.if-is_end.false (c.is_end.ensures.1 ended) in
    let line = line_read c.lines.reader.intake c.next.new.self.intake _ _ c.in_ok-line.line some c.in_ok-line.ensures.read in
    run_smaller line.0 line.1 c.next.ensures.within

pub lines-preserved : goal.lines-preserved
lines-preserved g c =
    let some : c.in_ok-line.line ≢ End = λ ended. contradicts c.if-is_end.false (c.is_end.ensures.1 ended) in
    let line = line_read c.lines.reader.intake c.next.new.self.intake _ _ c.in_ok-line.line some c.in_ok-line.ensures.read in
    let grown : shown c.push.new.self.items ≡ shown c.lines.lines.items ++ input_line line.0 ∷ [] =
    shown-push c.lines.lines.items c.push.new.self.items c.in_ok-line.line line.0 c.in_ok-push.ensures.items line.2 in
    (c.in_ok-line.ensures.failed, run_line line.0 (shown c.push.new.self.items) (g.S.Source.faults c.next.new.source) c.lines.invariant.1 line.1 c.next.ensures.within grown (c.in_ok-line.ensures.cause.quiet (λ failed. cc)))

pub returns-in_err-push-clause-given : goal.returns-in_err-push-clause-given
returns-in_err-push-clause-given g c =
    let r = c.lines.invariant.1 in
    let some : c.in_ok-line.line ≢ End = λ ended. contradicts c.if-is_end.false (c.is_end.ensures.1 ended) in
    let line = line_read c.lines.reader.intake c.next.new.self.intake _ _ c.in_ok-line.line some c.in_ok-line.ensures.read in
    let exit = err_from_is_err_and c.from_residual-in_err-push.result c.from_residual-in_err-push.ensures.1 in
    let same : c.push.new.self.items ≡ c.lines.lines.items = c.in_err-push.ensures.items in
    rw (exit.1, exit.2, same) (gives (Err NoMemory) r (run_some r line.1.more line.1.going line.1.takes))

pub returns-then-is_end-clause-all : goal.returns-then-is_end-clause-all
returns-then-is_end-clause-all g c = reads-all _ _ _ _ _ (returns-then-is_end-clause-given g c)
