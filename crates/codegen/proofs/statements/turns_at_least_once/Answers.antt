use Rattle.codegen.specs.Worklist.{items_of}
use Rattle.codegen.proofs.Back.{with_labels, label_more}
use Rattle.codegen.proofs.Bodies.{do_while_plan}
use Rattle.codegen.proofs.Steps.{with_four}
use Rattle.codegen.proofs.Agreeing.{do_while_agrees}
use Rattle.std.proofs.Common.{refl, arith}
use Rattle.codegen.proofs.statements.turns_at_least_once.Goals as goal

pub returns-clause-back : goal.returns-clause-back
returns-clause-back c =
    rw c.in_ok-push_four-2.ensures (rw c.in_ok-push_four.ensures (rw c.in_ok-push_three.ensures (rw c.body-within.ensures.item (rw c.part-test.ensures.part
    (label_more _ _ c.args.config.now _ c.fresh-3.new.self c.fresh-4.new.self c.in_ok-start.ensures.labels
    (label_more _ _ c.args.config.now _ c.fresh-2.new.self c.fresh-3.new.self c.in_ok-on.ensures.labels
    (with_labels _ _ c.args.config.now _ c.fresh.new.self c.fresh-2.new.self c.in_ok-out.ensures.labels c.in_ok-first.ensures.labels
    (do_while_plan _ (items_of c.args.worklist.now) c.args.config.now c.args.exits _ _ c.len-height.result c.in_ok-first.first c.in_ok-start.start (record { out = c.in_ok-out.out; on = c.in_ok-on.on }) c.len-height.ensures))))))))

pub returns-clause-sound : goal.returns-clause-sound
returns-clause-sound c = rw c.in_ok-push_four-2.ensures (rw c.in_ok-push_four.ensures (rw c.in_ok-push_three.ensures (rw c.body-within.ensures.item (rw c.part-test.ensures.part (with_four _ _ _ c.args.config.now c.fresh.new.self c.fresh-2.new.self c.fresh-3.new.self c.fresh-4.new.self c.in_ok-out.out c.in_ok-first.first c.in_ok-on.on c.in_ok-start.start c.in_ok-out.ensures.label c.in_ok-out.ensures.labels c.in_ok-first.ensures.label c.in_ok-first.ensures.labels c.in_ok-on.ensures.label c.in_ok-on.ensures.labels c.in_ok-start.ensures.label c.in_ok-start.ensures.labels (λ allow of s. do_while_agrees _ of (items_of c.args.worklist.now) c.args.config.now c.args.exits _ _ c.len-height.result c.in_ok-first.first c.in_ok-start.start (record { out = c.in_ok-out.out; on = c.in_ok-on.on }) c.len-height.ensures s) refl)))))

pub returns-clause-falls : goal.returns-clause-falls
returns-clause-falls c = rw c.in_ok-push_four-2.ensures (rw c.in_ok-push_four.ensures (rw c.in_ok-push_three.ensures (omega (arith, c.body-within.ensures.weight, c.part-test.ensures.weight))))
