use Rattle.std.proofs.Common.{refl, sym, ap, ◌∙◌, arith}
use Rattle.compiler_relation.specs.Representation.{representation_of}
use Rattle.codegen.proofs.Steps.{instead}
use Rattle.codegen.proofs.statements.give_value.Goals as goal

pub returns-in_err-represented_as-clause-sound : goal.returns-in_err-represented_as-clause-sound
returns-in_err-represented_as-clause-sound c = record { by = λ allow s. absurd (c.in_err-represented_as.ensures (ap representation_of s.agree.0.1 ∙ sym s.representation)) }

pub returns-clause-sound : goal.returns-clause-sound
returns-clause-sound c = rw c.in_ok-push_three.ensures (instead _ _ _ _ (λ allow of s. (s.0.0, s.1)) refl)

pub returns-clause-falls : goal.returns-clause-falls
returns-clause-falls c = rw c.in_ok-push_three.ensures (omega arith)
