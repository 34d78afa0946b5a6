use Rattle.std.proofs.Common.{refl, ◌∙◌}
use Rattle.std.proofs.lemmas.Result.{err_from_is_err_and}
use Rattle.codegen.proofs.Back.{operate_back}
use Rattle.codegen.proofs.Steps.{lined}
use Rattle.codegen.proofs.step.operate.Goals as goal

pub returns-clause-back : goal.returns-clause-back
returns-clause-back c = operate_back _ _ _ _ _ _ _ c.in_ok-put_operation.ensures.lines

pub returns-clause-sound : goal.returns-clause-sound
returns-clause-sound c = lined _ _ _ _ _ (λ allow of s. s.1) refl

pub returns-in_err-put_operation-clause-sound : goal.returns-in_err-put_operation-clause-sound
returns-in_err-put_operation-clause-sound c =
    let p = err_from_is_err_and c.from_residual.result c.from_residual.ensures.1 in
    rw p.1 (record { by = λ allow s. p.2 ∙ c.in_err-put_operation.ensures.total s.agree.0 })
