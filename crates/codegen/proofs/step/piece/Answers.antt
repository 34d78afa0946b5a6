use Rattle.codegen.proofs.Back.{put_back}
use Rattle.std.proofs.Common.{refl}
use Rattle.codegen.proofs.Steps.{lined}
use Rattle.codegen.proofs.step.piece.Goals as goal

pub returns-clause-back : goal.returns-clause-back
returns-clause-back c = put_back _ _ _ _ _ c.in_ok-put.ensures

pub returns-clause-sound : goal.returns-clause-sound
returns-clause-sound c = lined _ _ _ _ _ (λ allow of s. s) refl
