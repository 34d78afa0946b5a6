use Rattle.std.proofs.Common.{refl, arith}
use Rattle.codegen.proofs.Steps.{instead}
use Rattle.codegen.proofs.statements.expression.Goals as goal

pub returns-clause-sound : goal.returns-clause-sound
returns-clause-sound c = rw c.in_ok-push_three.ensures (instead _ _ _ _ (λ allow of s. s) refl)

pub returns-clause-falls : goal.returns-clause-falls
returns-clause-falls c = rw c.in_ok-push_three.ensures (omega arith)
