use Rattle.codegen.specs.Worklist.{items_of}
use Rattle.codegen.proofs.Back.{with_labels}
use Rattle.codegen.proofs.Bodies.{if_plan}
use Rattle.codegen.proofs.Steps.{with_two, never}
use Rattle.codegen.proofs.Agreeing.{if_agrees}
use Rattle.std.proofs.Common.{refl, arith}
use Rattle.codegen.proofs.Fitting.{flag_representation}
use Rattle.codegen.proofs.statements.choice.Goals as goal

pub returns-clause-back : goal.returns-clause-back
returns-clause-back c =
    rw c.in_ok-push_four.ensures (rw c.in_ok-push_three-2.ensures (rw c.in_ok-push_three.ensures (rw c.body-yes.ensures.item (rw c.body_if_any-no.ensures.item
    (with_labels _ _ c.args.config.now _ c.fresh.new.self c.fresh-2.new.self c.in_ok-end.ensures.labels c.in_ok-over.ensures.labels
    (if_plan _ (items_of c.args.worklist.now) c.args.config.now c.args.exits _ _ _ c.len-height.result c.in_ok-over.over c.in_ok-end.end c.len-height.ensures c.in_ok-represented_as.ensures))))))

pub returns-clause-sound : goal.returns-clause-sound
returns-clause-sound c = rw c.in_ok-push_four.ensures (rw c.in_ok-push_three-2.ensures (rw c.in_ok-push_three.ensures (rw c.body-yes.ensures.item (rw c.body_if_any-no.ensures.item (with_two _ _ _ c.args.config.now c.fresh.new.self c.fresh-2.new.self c.in_ok-end.end c.in_ok-over.over c.in_ok-end.ensures.label c.in_ok-end.ensures.labels c.in_ok-over.ensures.label c.in_ok-over.ensures.labels (λ allow of s. if_agrees _ of (items_of c.args.worklist.now) c.args.config.now c.args.exits _ _ _ c.len-height.result c.in_ok-over.over c.in_ok-end.end c.len-height.ensures s) refl)))))

pub returns-in_err-represented_as-clause-sound : goal.returns-in_err-represented_as-clause-sound
returns-in_err-represented_as-clause-sound c = never _ _ _ _ _ _ (λ allow of s. c.in_err-represented_as.ensures (flag_representation _ s.0.1))

pub returns-clause-falls : goal.returns-clause-falls
returns-clause-falls c = rw c.in_ok-push_four.ensures (rw c.in_ok-push_three-2.ensures (rw c.in_ok-push_three.ensures (omega (arith, c.body-yes.ensures.weight, c.body_if_any-no.ensures.weight))))
