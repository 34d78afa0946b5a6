use Rattle.codegen.specs.Worklist.{items_of}
use Rattle.codegen.proofs.Plans.{assign_plan}
use Rattle.std.proofs.Common.{refl, sym, ap, ◌∙◌, arith}
use Rattle.compiler_relation.specs.Representation.{representation_of}
use Rattle.codegen.proofs.Steps.{instead, never}
use Rattle.codegen.proofs.expressions.assign_local.Goals as goal

pub returns-clause-back : goal.returns-clause-back
returns-clause-back c =
    rw c.in_ok-push_three.ensures (
    (assign_plan _ (items_of c.args.worklist.now) c.args.config.now c.args.at c.args.of.now _ _ _ _ c.representation_of-representation.ensures c.in_ok-represented_as.ensures))

pub returns-in_err-represented_as-clause-sound : goal.returns-in_err-represented_as-clause-sound
returns-in_err-represented_as-clause-sound c = (never _ _ _ _ _ _ (λ allow of s. c.in_err-represented_as.ensures (ap representation_of s.0.2 ∙ sym c.representation_of-representation.ensures)))

pub returns-clause-sound : goal.returns-clause-sound
returns-clause-sound c = rw c.in_ok-push_three.ensures ((instead _ _ _ _ (λ allow of s. (s.0.0, (record { of = c.args.of.now; is = s.0.1; represented_so = c.representation_of-representation.ensures }, s.1))) refl))

pub returns-clause-falls : goal.returns-clause-falls
returns-clause-falls c = rw c.in_ok-push_three.ensures (omega arith)
