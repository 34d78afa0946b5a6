use Rattle.std.proofs.Common.{ap, ◌∙◌}
use Rattle.std.proofs.lemmas.Result.{IfOk-weaker}
use Rattle.verified_machine.specs.Verified.{CodeUnder}
use Rattle.script_engine.proofs.compiling.executable_of.Goals as goal

pub returns-clause-code : goal.returns-clause-code
returns-clause-code c =
    IfOk-weaker c.new.result _ _ (λ e same. (
      ap (λ (v : CodeUnder). v.code) (same ∙ c.in_ok-verified.ensures),
      ap (λ (v : CodeUnder). v.allow) (same ∙ c.in_ok-verified.ensures),
    )) c.new.ensures.same
