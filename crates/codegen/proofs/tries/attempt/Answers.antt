use Rattle.std.proofs.Common.{refl, arith}
use Rattle.codegen.specs.Worklist.{items_of}
use Rattle.codegen.proofs.Back.{with_label}
use Rattle.codegen.proofs.Handled.{try_plan}
use Rattle.codegen.proofs.Steps.{with_one}
use Rattle.codegen.proofs.Agreeing.{try_agrees}
use Rattle.codegen.proofs.tries.attempt.Goals as goal

pub returns-clause-back : goal.returns-clause-back
returns-clause-back c = rw c.in_ok-push_three-2.ensures (rw c.in_ok-push_three.ensures
    (with_label _ _ c.args.config.now _ c.fresh.new.self c.in_ok-end.ensures.labels
    (try_plan _ (items_of c.args.worklist.now) c.args.config.now c.args.exits _ _ c.len-height.result c.in_ok-from.from c.in_ok-end.end c.len-height.ensures c.in_ok-from.ensures.number)))

pub returns-clause-sound : goal.returns-clause-sound
returns-clause-sound c = rw c.in_ok-push_three-2.ensures (rw c.in_ok-push_three.ensures
    (with_one _ _ _ c.args.config.now c.fresh.new.self c.in_ok-end.end c.in_ok-end.ensures.label c.in_ok-end.ensures.labels
    (λ allow of s. try_agrees _ of (items_of c.args.worklist.now) c.args.config.now c.args.exits _ _ c.len-height.result c.in_ok-from.from c.in_ok-end.end c.len-height.ensures s) refl))

pub returns-clause-falls : goal.returns-clause-falls
returns-clause-falls c = rw c.in_ok-push_three-2.ensures (rw c.in_ok-push_three.ensures (omega arith))
