use Rattle.std.proofs.Common.{◌≡◌, ◌∙◌, sym, true, false, slice_get, refl, arith}
use Rattle.std.proofs.lemmas.Bool.Decides.{nat_tests}
use Rattle.std.proofs.lemmas.Int.{to_z-of_z}
use Rattle.number_ops.specs.Order.{differs, text_order}
use Rattle.number_ops.proofs.TextOrder.{order_step, taken, passed}
use Rattle.number_ops.proofs.order.text_order.Goals as goal

pub returns-then-differs_at : goal.returns-then-differs_at
returns-then-differs_at c =
    let test : differs (slice_get c.args.a.now c.loop-at.at) (slice_get c.args.b.now c.loop-at.at) ≡ true = grind (arith, nat_tests) in
    let told : c.difference_at.result ≡ text_order c.args.a.now c.args.b.now =
    c.difference_at.ensures
    ∙ sym (c.loop-at.invariant
    ∙ (order_step c.args.a.now c.args.b.now c.loop-at.at (slice_get c.args.a.now c.loop-at.at) (slice_get c.args.b.now c.loop-at.at) refl refl (omega arith)
    ∙ taken _ _ _ test))
    in
    grind (arith, to_z-of_z)

pub loop-at-preserved : goal.loop-at-preserved
loop-at-preserved c =
    let test : differs (slice_get c.args.a.now c.loop-at.at) (slice_get c.args.b.now c.loop-at.at) ≡ false = grind (arith, nat_tests) in
    c.loop-at.invariant
    ∙ (order_step c.args.a.now c.args.b.now c.loop-at.at (slice_get c.args.a.now c.loop-at.at) (slice_get c.args.b.now c.loop-at.at) refl refl (omega arith)
    ∙ passed _ _ _ test)
