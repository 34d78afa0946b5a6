use Rattle.std.proofs.Common.{◌≡◌, ◌+◌, Some, None, Err, sym, ap, ◌∙◌, min}
use Rattle.std.proofs.lemmas.Bool.{cond-true, cond-false}
use Rattle.pl_code.specs.declared.error.ListingErr.TheVariants.{Syntax}
use Rattle.pl_code.specs.Reading.{next_line, told, continued, read_bytes, reading_in}
use Rattle.pl_code.proofs.Steps.{one_line, no_more, shorter, told_more, gives}
use Rattle.pl_code.proofs.reading.read_functions.Goals as goal

pub returns-then-not-branch : goal.returns-then-not-branch
returns-then-not-branch c =
    let inv = c.loop-line.invariant in
    let step = one_line inv.n c.loop-line.reading c.loop-line.rest.now c.in-Some.line.now c.in-Some.behind.now (sym c.in-Some.ensures) in
    let none : next_line c.loop-line.reading c.in-Some.line.now ≡ None = sym c.in_ok-read_line.ensures ∙ cond-false _ _ _ c.if-not-branch.true in
    let number : c.saturating_add-before.result ≡ told (inv.n + 1) = c.saturating_add-before.ensures ∙ ap (λ b. min (b + 1) 4294967295) inv.is ∙ told_more inv.n in
    ap (λ b. Err (Syntax b)) number
    ∙ sym (ap (λ fs. read_bytes 1 (reading_in fs None) c.args.text.now) (sym c.new.ensures) ∙ inv.same ∙ step
    ∙ ap (λ o. continued (inv.n + 1) o (λ q. read_bytes (inv.n + 1) q c.in-Some.behind.now)) none)

pub loop-line-smaller : goal.loop-line-smaller
loop-line-smaller c = shorter c.loop-line.rest.now c.in-Some.line.now c.in-Some.behind.now (sym c.in-Some.ensures)

pub loop-line-preserved : goal.loop-line-preserved
loop-line-preserved c =
    let inv = c.loop-line.invariant in
    let step = one_line inv.n c.loop-line.reading c.loop-line.rest.now c.in-Some.line.now c.in-Some.behind.now (sym c.in-Some.ensures) in
    let some : next_line c.loop-line.reading c.in-Some.line.now ≡ Some c.read_line.new.self = sym c.in_ok-read_line.ensures ∙ cond-true _ _ _ c.if-not-branch.false in
    record {
      n = inv.n + 1;
      is = c.saturating_add-before.ensures ∙ ap (λ b. min (b + 1) 4294967295) inv.is ∙ told_more inv.n;
      same = inv.same ∙ step ∙ ap (λ o. continued (inv.n + 1) o (λ q. read_bytes (inv.n + 1) q c.in-Some.behind.now)) some;
    }

pub returns : goal.returns
returns c =
    let inv = c.loop-line.invariant in
    let number : c.saturating_add.result ≡ told (inv.n + 1) = c.saturating_add.ensures ∙ ap (λ b. min (b + 1) 4294967295) inv.is ∙ told_more inv.n in
    gives _ _ (c.finish.ensures (inv.n + 1) number
    ∙ sym (ap (λ fs. read_bytes 1 (reading_in fs None) c.args.text.now) (sym c.new.ensures) ∙ inv.same ∙ no_more inv.n c.loop-line.reading c.loop-line.rest.now (sym c.in_default.ensures)))
