use Rattle.codegen.proofs.Listed.{class_made_so}
use Rattle.codegen.proofs.tries.class_name.Goals as goal

pub returns-in_default-clause-total : goal.returns-in_default-clause-total
returns-in_default-clause-total c = λ h. absurd (class_made_so c.args.class c.class_full.result.now c.in_ok-name.field-0 c.in_ok-name.ensures c.class_full.ensures c.in_default.is h)
