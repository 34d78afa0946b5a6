use Rattle.std.proofs.Common.{subst}
use Rattle.std.specs.Prelude.{reverse}
use Rattle.verifier_table.specs.Windows.{HasWindows}
use Rattle.verifier.specs.Signed.{AllCut}
use Rattle.verifier.proofs.Cutting.{one_more_cut, all_of}
use Rattle.verifier.proofs.signatures.all_windows.Goals as goal

pub loop-function-preserved : goal.loop-function-preserved
loop-function-preserved c =
    one_more_cut c.args.functions.now c.loop-function.function-index c.function-item.result c.loop-function.windows _ _ c.loop-function.invariant
    (subst (λ params. HasWindows (reverse params) c.in_ok-windows_of.field-0) c.as_slice.ensures c.in_ok-windows_of.ensures) c.in_ok-push.ensures.ok
    c.function-item.is c.loop-function-test.true

pub returns : goal.returns
returns c = subst (λ functions. AllCut functions c.loop-function.windows) (all_of c.args.functions.now c.loop-function.function-index c.loop-function-test.false) c.loop-function.invariant
