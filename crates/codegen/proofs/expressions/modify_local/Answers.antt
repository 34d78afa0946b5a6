use Rattle.std.proofs.Common.{sym, subst, refl, arith}
use Rattle.codegen.specs.Worklist.{items_of}
use Rattle.compiler_relation.specs.Representation.{Representation}
use Rattle.compiler_relation.specs.Stands.{ChangeFits}
use Rattle.codegen.proofs.Plans.{modify_plan}
use Rattle.codegen.proofs.Steps.{instead, never}
use Rattle.codegen.proofs.Fitting.{changes_fit, changes_name}
use Rattle.codegen.proofs.expressions.modify_local.Goals as goal

pub returns-clause-back : goal.returns-clause-back
returns-clause-back c =
    rw c.in_ok-push_four-2.ensures (rw c.in_ok-push_four.ensures (
    (modify_plan _ (items_of c.args.worklist.now) c.args.config.now c.args.at c.args.of.now _ _ c.args.change _ c.args.gives _
    c.representation_of-representation.ensures (subst (λ (k : Representation). ChangeFits c.args.change c.args.of.now k) c.representation_in.ensures c.in_ok-change_fits.ensures))))

pub returns-in_err-change_fits-clause-sound : goal.returns-in_err-change_fits-clause-sound
returns-in_err-change_fits-clause-sound c = (never _ _ _ _ _ _
    (λ allow of s. c.in_err-change_fits.ensures (subst (λ (k : Representation). ChangeFits c.args.change c.args.of.now k) (sym c.representation_in.ensures) (changes_fit c.args.change c.args.of.now _ s.0.2))))

pub returns-clause-sound : goal.returns-clause-sound
returns-clause-sound c = rw c.in_ok-push_four-2.ensures (rw c.in_ok-push_four.ensures ((instead _ _ _ _
    (λ allow of s. (
      record { of = c.args.of.now; is = s.0.1; represented_so = c.representation_of-representation.ensures },
      (
        (changes_name c.args.change c.args.of.now _ s.0.2).before,
        (s.0.0, ((changes_name c.args.change c.args.of.now _ s.0.2).after, (record { of = c.args.of.now; is = s.0.1; represented_so = c.representation_of-representation.ensures }, s.1))),
      ),
    )) refl)))

pub returns-clause-falls : goal.returns-clause-falls
returns-clause-falls c = rw c.in_ok-push_four-2.ensures (rw c.in_ok-push_four.ensures (omega arith))
