use Rattle.std.proofs.Common.{refl, ◌∙◌, arith}
use Rattle.codegen.proofs.Steps.{instead}
use Rattle.codegen.proofs.Fitting.{nothing_representation}
use Rattle.codegen.proofs.statements.give_nothing.Goals as goal

pub returns-in_err-alike-clause-sound : goal.returns-in_err-alike-clause-sound
returns-in_err-alike-clause-sound c = record { by = λ allow s. absurd (c.in_err-alike.ensures (s.representation ∙ nothing_representation _ s.agree.0)) }

pub returns-clause-sound : goal.returns-clause-sound
returns-clause-sound c = rw c.in_ok-push_two.ensures (instead _ _ _ _ (λ allow of s. s.1) refl)

pub returns-clause-falls : goal.returns-clause-falls
returns-clause-falls c = rw c.in_ok-push_two.ensures (omega arith)
