use Rattle.std.proofs.Common.{refl, ◌∙◌, arith}
use Rattle.codegen.proofs.Steps.{instead, never}
use Rattle.codegen.proofs.Fitting.{string_representation}
use Rattle.codegen.proofs.expressions.quoted.Goals as goal

pub returns-in_err-alike-clause-sound : goal.returns-in_err-alike-clause-sound
returns-in_err-alike-clause-sound c = never _ _ _ _ _ _ (λ allow of s. c.in_err-alike.ensures (c.representation_of.ensures ∙ string_representation _ s.0))

pub returns-clause-sound : goal.returns-clause-sound
returns-clause-sound c = rw c.in_ok-push.ensures (instead _ _ _ _ (λ allow of s. s.1) refl)

pub returns-clause-falls : goal.returns-clause-falls
returns-clause-falls c = rw c.in_ok-push.ensures (omega arith)
