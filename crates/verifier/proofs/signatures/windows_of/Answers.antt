use Rattle.std.proofs.Common.{◌≡◌, ◌-◌, ◌*◌, length, take, drop, ap, arith}
use Rattle.verifier.proofs.Cutting.{one_cut}
use Rattle.verifier.proofs.signatures.windows_of.Goals as goal

pub loop-done-preserved : goal.loop-done-preserved
loop-done-preserved c =
    let params = c.args.params.now in
    let done = c.loop-done.done in
    let start = length params - 31 * done - 31 in
    let many : length params - 31 * done - start ≡ 31 = omega (arith, c.loop-done-test.true) in
    one_cut params _ c.loop-done.windows c.push.new.self c.window_of.result done start c.loop-done.invariant c.loop-done-test.true (omega (arith, c.loop-done-test.true))
    (ap (λ n. take n (drop start params)) many) c.window_of.ensures c.in_ok-push.ensures.ok
