use Rattle.std.proofs.Common.{◌∙◌}
use Rattle.codegen.proofs.Listed.{made_so}
use Rattle.codegen.proofs.naming.type_name.Goals as goal

pub returns-in_default-clause-total : goal.returns-in_default-clause-total
returns-in_default-clause-total c = λ h. absurd (made_so c.args.of.now c.as_str.result.now c.in_ok-name.field-0 c.in_ok-name.ensures (c.as_str.ensures.value ∙ c.in_ok-text.ensures) c.in_default.is h)
