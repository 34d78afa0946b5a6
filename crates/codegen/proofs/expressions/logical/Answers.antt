use Rattle.std.proofs.Common.{sym, ◌∙◌, refl, arith}
use Rattle.codegen.specs.Worklist.{items_of}
use Rattle.codegen.proofs.Back.{with_labels}
use Rattle.codegen.proofs.Plans.{logical_plan}
use Rattle.codegen.proofs.Steps.{with_two, never}
use Rattle.codegen.proofs.Fitting.{flag_representation}
use Rattle.codegen.proofs.expressions.logical.Goals as goal

pub returns-clause-back : goal.returns-clause-back
returns-clause-back c =
    rw c.in_ok-push_four.ensures (rw c.in_ok-push_three.ensures (rw c.settling.ensures
    (with_labels _ _ c.args.config.now _ c.fresh.new.self c.fresh-2.new.self c.in_ok-end.ensures.labels c.in_ok-settled.ensures.labels
    (logical_plan _ (items_of c.args.worklist.now) c.args.config.now c.args.at c.args.of.now c.args.operator _ _ c.in_ok-settled.settled c.in_ok-end.end
    c.in_ok-represented_as.ensures c.in_ok-represented_as-2.ensures (sym c.representation_of.ensures ∙ c.in_ok-alike.ensures)))))

pub returns-clause-sound : goal.returns-clause-sound
returns-clause-sound c = rw c.in_ok-push_four.ensures (rw c.in_ok-push_three.ensures (with_two _ _ _ c.args.config.now c.fresh.new.self c.fresh-2.new.self c.in_ok-end.end c.in_ok-settled.settled c.in_ok-end.ensures.label c.in_ok-end.ensures.labels c.in_ok-settled.ensures.label c.in_ok-settled.ensures.labels (λ allow of s. (s.0.0, (s.0.1, s.1))) refl))

pub returns-in_err-represented_as-clause-sound : goal.returns-in_err-represented_as-clause-sound
returns-in_err-represented_as-clause-sound c = never _ _ _ _ _ _ (λ allow of s. c.in_err-represented_as.ensures (flag_representation _ s.0.2))

pub returns-in_err-represented_as-2-clause-sound : goal.returns-in_err-represented_as-2-clause-sound
returns-in_err-represented_as-2-clause-sound c = never _ _ _ _ _ _ (λ allow of s. c.in_err-represented_as-2.ensures (flag_representation _ s.0.3))

pub returns-in_err-alike-clause-sound : goal.returns-in_err-alike-clause-sound
returns-in_err-alike-clause-sound c = never _ _ _ _ _ _ (λ allow of s. c.in_err-alike.ensures (c.representation_of.ensures ∙ flag_representation _ s.0.4))

pub returns-clause-falls : goal.returns-clause-falls
returns-clause-falls c = rw c.in_ok-push_four.ensures (rw c.in_ok-push_three.ensures (omega arith))
