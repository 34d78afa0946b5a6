use Rattle.std.proofs.Common.{◌+◌, ◌*◌, take, drop, refl, ◌∙◌}
use Rattle.verifier.proofs.Takings.{window_goes, window_fails}
use Rattle.verifier.proofs.Cutting.{cut_off}
use Rattle.verifier.proofs.call.take_windows.Goals as goal

pub loop-at-init : goal.loop-at-init
loop-at-init c = (refl, λ kinds cut. record { stack = refl; lines = refl })

pub returns-then-not-take_window-clause-stack : goal.returns-then-not-take_window-clause-stack
returns-then-not-take_window-clause-stack c kinds cut =
    let i = c.loop-at.at in
    let off = cut_off kinds c.args.windows.now i cut c.loop-at-test.true in
    window_fails kinds (drop (31 * i) kinds) (take 31 (drop (31 * i) kinds)) (drop (31 * (i + 1)) kinds) _ _ (c.loop-at.invariant.1 kinds cut) off.is
    (c.if-not-take_window.ensures.stack (take 31 (drop (31 * i) kinds)) off.many (cut.each i c.loop-at-test.true))

pub returns-then-not-take_window-clause-lines : goal.returns-then-not-take_window-clause-lines
returns-then-not-take_window-clause-lines c = c.if-not-take_window.ensures.lines ∙ c.loop-at.invariant.0

pub loop-at-preserved : goal.loop-at-preserved
loop-at-preserved c = (
  c.if-not-take_window.ensures.lines ∙ c.loop-at.invariant.0,
  λ kinds cut.
      let i = c.loop-at.at in
      let off = cut_off kinds c.args.windows.now i cut c.loop-at-test.true in
      window_goes kinds (drop (31 * i) kinds) (take 31 (drop (31 * i) kinds)) (drop (31 * (i + 1)) kinds) _ _ _ (c.loop-at.invariant.1 kinds cut) off.is
      (c.if-not-take_window.ensures.stack (take 31 (drop (31 * i) kinds)) off.many (cut.each i c.loop-at-test.true))
      c.if-not-take_window.ensures.lines,
)
