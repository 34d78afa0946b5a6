use Rattle.std.proofs.Common.{take, sym, ap, ◌∙◌}
use Rattle.std.specs.Prelude.{reverse}
use Rattle.verifier_table.specs.Windows.{numeral_of}
use Rattle.verifier.proofs.Cutting.{one_more_kind, all_of}
use Rattle.verifier.proofs.signatures.window_of.Goals as goal

pub loop-at-preserved : goal.loop-at-preserved
loop-at-preserved c =
    c.window_with-window.ensures (reverse (take c.loop-at.at c.args.kinds.now)) c.loop-at.invariant
    ∙ ap (λ l. numeral_of (take 31 l)) (sym (one_more_kind c.args.kinds.now c.loop-at.at _ c.loop-at-test.true))

pub returns : goal.returns
returns c = c.loop-at.invariant ∙ ap (λ l. numeral_of (take 31 (reverse l))) (all_of c.args.kinds.now c.loop-at.at c.loop-at-test.false)
