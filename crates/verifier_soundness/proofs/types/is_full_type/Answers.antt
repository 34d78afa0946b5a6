use Rattle.std.proofs.Common.{◌∙◌}
use Rattle.verifier_soundness.proofs.FullTypes.{before_is, plain_is}
use Rattle.verifier_soundness.proofs.types.is_full_type.Goals as goal

pub brackets-preserved : goal.brackets-preserved
brackets-preserved c = before_is c.brackets.word.now c.in-Some.element.now c.in-Some.ensures ∙ c.brackets.invariant

pub returns : goal.returns
returns c = c.is_plain_type.ensures ∙ plain_is c.brackets.word.now c.in_default.ensures ∙ c.brackets.invariant
