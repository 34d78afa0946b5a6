use Rattle.std.proofs.Common.{◌≡◌, ◌-◌, ◌*◌, ap, ◌∙◌, arith}
use Rattle.std.specs.Prelude.{replicate}
use Rattle.std.proofs.lemmas.List.{length-replicate}
use Rattle.verifier.proofs.Takings.{windows_yet, one_window, window_goes, window_fails, all_gone}
use Rattle.verifier.proofs.take.window_copies.Goals as goal

pub loop-done-init : goal.loop-done-init
loop-done-init c = windows_yet c.args.windows c.args.kind c.args.table.now

pub returns-then-not-take_window-clause-stack : goal.returns-then-not-take_window-clause-stack
returns-then-not-take_window-clause-stack c =
    window_fails _ _ (replicate 31 c.args.kind) _ _ _ c.loop-done.invariant (one_window c.args.windows c.loop-done.done c.args.kind (omega arith))
    (c.if-not-take_window.ensures.stack (replicate 31 c.args.kind) (length-replicate 31 c.args.kind) c.window_of_copies-window.ensures)

pub returns-then-not-take_window-clause-lines : goal.returns-then-not-take_window-clause-lines
returns-then-not-take_window-clause-lines c = c.if-not-take_window.ensures.lines ∙ c.loop-done.invariant.lines

pub loop-done-preserved : goal.loop-done-preserved
loop-done-preserved c =
    window_goes _ _ (replicate 31 c.args.kind) _ _ _ _ c.loop-done.invariant (one_window c.args.windows c.loop-done.done c.args.kind (omega arith))
    (c.if-not-take_window.ensures.stack (replicate 31 c.args.kind) (length-replicate 31 c.args.kind) c.window_of_copies-window.ensures) c.if-not-take_window.ensures.lines

pub returns-clause-stack : goal.returns-clause-stack
returns-clause-stack c = all_gone _ _ _ _ c.loop-done.invariant (let z : 31 * c.args.windows - 31 * c.loop-done.done ≡ 0 = omega arith in ap (λ n. replicate n c.args.kind) z)
