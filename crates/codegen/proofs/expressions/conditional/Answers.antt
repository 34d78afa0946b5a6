use Rattle.std.proofs.Common.{◌∙◌, refl, sym, ap, arith}
use Rattle.codegen.specs.Worklist.{items_of}
use Rattle.codegen.proofs.Back.{with_labels}
use Rattle.codegen.proofs.Plans.{conditional_plan}
use Rattle.codegen.proofs.Steps.{with_two, never}
use Rattle.compiler_relation.specs.Representation.{representation_of}
use Rattle.codegen.proofs.Fitting.{flag_representation}
use Rattle.codegen.proofs.expressions.conditional.Goals as goal

pub returns-clause-back : goal.returns-clause-back
returns-clause-back c =
    rw c.in_ok-push_four.ensures (rw c.in_ok-push_three.ensures
    (with_labels _ _ c.args.config.now _ c.fresh.new.self c.fresh-2.new.self c.in_ok-end.ensures.labels c.in_ok-other.ensures.labels
    (conditional_plan _ (items_of c.args.worklist.now) c.args.config.now c.args.at c.args.of.now _ _ _ c.in_ok-other.other c.in_ok-end.end
    c.in_ok-represented_as.ensures (c.in_ok-represented_as-2.ensures ∙ c.representation_of.ensures) (c.in_ok-represented_as-3.ensures ∙ c.representation_of-2.ensures))))

pub returns-clause-sound : goal.returns-clause-sound
returns-clause-sound c = rw c.in_ok-push_four.ensures (rw c.in_ok-push_three.ensures (with_two _ _ _ c.args.config.now c.fresh.new.self c.fresh-2.new.self c.in_ok-end.end c.in_ok-other.other c.in_ok-end.ensures.label c.in_ok-end.ensures.labels c.in_ok-other.ensures.label c.in_ok-other.ensures.labels (λ allow of s. (s.0.0, (s.0.1, (s.0.2, s.1)))) refl))

pub returns-in_err-represented_as-clause-sound : goal.returns-in_err-represented_as-clause-sound
returns-in_err-represented_as-clause-sound c = never _ _ _ _ _ _ (λ allow of s. c.in_err-represented_as.ensures (flag_representation _ s.0.3))

pub returns-in_err-represented_as-2-clause-sound : goal.returns-in_err-represented_as-2-clause-sound
returns-in_err-represented_as-2-clause-sound c = never _ _ _ _ _ _ (λ allow of s. c.in_err-represented_as-2.ensures (ap representation_of s.0.4 ∙ sym c.representation_of.ensures))

pub returns-in_err-represented_as-3-clause-sound : goal.returns-in_err-represented_as-3-clause-sound
returns-in_err-represented_as-3-clause-sound c = never _ _ _ _ _ _ (λ allow of s. c.in_err-represented_as-3.ensures (ap representation_of s.0.5 ∙ sym c.representation_of-2.ensures))

pub returns-clause-falls : goal.returns-clause-falls
returns-clause-falls c = rw c.in_ok-push_four.ensures (rw c.in_ok-push_three.ensures (omega arith))
