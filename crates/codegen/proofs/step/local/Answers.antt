use Rattle.std.proofs.Common.{sym, ◌∙◌}
use Rattle.std.proofs.lemmas.Result.{err_from_is_err_and}
use Rattle.codegen.proofs.Back.{is_local}
use Rattle.codegen.proofs.Known.{not_missing, represented_as_named}
use Rattle.codegen.proofs.step.local.Goals as goal

pub returns : goal.returns
returns c = is_local _ _ _ _ _ c.in-Some.ensures c.in_ok-alike.ensures c.representation_of.ensures

pub returns-in_err-alike : goal.returns-in_err-alike
returns-in_err-alike c =
    let p = err_from_is_err_and c.from_residual.result c.from_residual.ensures.1 in
    rw p.1 (λ h. c.in_err-alike.ensures (represented_as_named _ _ _ _ c.in-Some.ensures h ∙ sym c.representation_of.ensures))

pub returns-in_default : goal.returns-in_default
returns-in_default c = λ h. not_missing _ _ _ c.in_default.ensures h
