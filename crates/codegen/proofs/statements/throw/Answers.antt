use Rattle.std.proofs.Common.{refl, arith}
use Rattle.codegen.proofs.Fitting.{is_boxed}
use Rattle.codegen.proofs.Steps.{instead, never}
use Rattle.codegen.proofs.statements.throw.Goals as goal

pub returns-in_err-represented_as-clause-sound : goal.returns-in_err-represented_as-clause-sound
returns-in_err-represented_as-clause-sound c = never _ _ _ _ _ _ (λ allow of s. c.in_err-represented_as.ensures (is_boxed _ s.0.1))

pub returns-clause-sound : goal.returns-clause-sound
returns-clause-sound c = rw c.in_ok-push_three.ensures (instead _ _ _ _ (λ allow of s. (s.0.0, s.1)) refl)

pub returns-clause-falls : goal.returns-clause-falls
returns-clause-falls c = rw c.in_ok-push_three.ensures (omega arith)
