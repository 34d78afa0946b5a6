use Rattle.std.proofs.Common.{Ok, subst}
use Rattle.std.proofs.lemmas.Result.{err_from_is_err_and}
use Rattle.outer_io.specs.Gathering.{Gathers, Refills}
use Rattle.outer_io.proofs.ReadingLemmas.{progress_open, progress_more, reads_newline, reads_source, reads_err}
use Rattle.outer_io.proofs.lines.read_line.Goals as goal

pub returns-in-Ended-clause-read : goal.returns-in-Ended-clause-read
returns-in-Ended-clause-read g c =
    let p = c.pieces.invariant in
    let gathered = subst (λ x. Gathers c.pieces.intake c.gather.new.self p.before (Ok x)) c.in-Ended.is (c.in_ok-whole.ensures.gathered p.before p.holds) in
    reads_newline c.line_of.result c.requires p gathered c.line_of.ensures

pub returns-in_err-goes_on-clause-read : goal.returns-in_err-goes_on-clause-read
returns-in_err-goes_on-clause-read g c =
    let p = c.pieces.invariant in
    let gathered = subst (λ x. Gathers c.pieces.intake c.gather.new.self p.before (Ok x)) c.in-Open.is (c.in_ok-whole.ensures.gathered p.before p.holds) in
    let exit = err_from_is_err_and c.from_residual-in_err-goes_on.result c.from_residual-in_err-goes_on.ensures.1 in
    rw (exit.1, exit.2)
    (reads_err c.refill.new.self (g.S.Source.left c.refill.new.source) c.in_err-goes_on.field-0.0 c.requires (progress_open p gathered) gathered.none
    c.in_err-goes_on.ensures.refilled)

pub returns-then-not-goes_on-clause-read : goal.returns-then-not-goes_on-clause-read
returns-then-not-goes_on-clause-read g c =
    let p = c.pieces.invariant in
    let gathered = subst (λ x. Gathers c.pieces.intake c.gather.new.self p.before (Ok x)) c.in-Open.is (c.in_ok-whole.ensures.gathered p.before p.holds) in
    let refilled = subst (λ x. Refills c.gather.new.self c.refill.new.self (g.S.Source.left c.pieces.source) (g.S.Source.left c.refill.new.source) (Ok x)) c.if-not-goes_on.true c.in_ok-goes_on.ensures.refilled in
    reads_source c.last_of.result c.requires (progress_open p gathered) gathered.none refilled c.last_of.ensures

pub pieces-preserved : goal.pieces-preserved
pieces-preserved g c =
    let p = c.pieces.invariant in
    let gathered = subst (λ x. Gathers c.pieces.intake c.gather.new.self p.before (Ok x)) c.in-Open.is (c.in_ok-whole.ensures.gathered p.before p.holds) in
    let refilled = subst (λ x. Refills c.gather.new.self c.refill.new.self (g.S.Source.left c.pieces.source) (g.S.Source.left c.refill.new.source) (Ok x)) c.if-not-goes_on.false c.in_ok-goes_on.ensures.refilled in
    progress_more (progress_open p gathered) gathered.none refilled (c.in_ok-goes_on.ensures.cause.quiet (λ failed. cc))
