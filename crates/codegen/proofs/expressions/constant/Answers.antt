use Rattle.std.proofs.Common.{refl, sym, ◌∙◌, arith}
use Rattle.codegen.proofs.Steps.{instead, never}
use Rattle.codegen.proofs.Fitting.{constant_representation}
use Rattle.codegen.proofs.expressions.constant.Goals as goal

pub returns-in_err-alike-clause-sound : goal.returns-in_err-alike-clause-sound
returns-in_err-alike-clause-sound c = never _ _ _ _ _ _ (λ allow of s. c.in_err-alike.ensures (c.representation_of.ensures ∙ constant_representation _ _ s.0 ∙ sym c.literal_representation.ensures))

pub returns-clause-sound : goal.returns-clause-sound
returns-clause-sound c = rw c.in_ok-push.ensures (instead _ _ _ _ (λ allow of s. s.1) refl)

pub returns-clause-falls : goal.returns-clause-falls
returns-clause-falls c = rw c.in_ok-push.ensures (omega arith)
