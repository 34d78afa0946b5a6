use Rattle.std.proofs.Common.{Bool, sym, ap, ◌∙◌, subst}
use Rattle.std.specs.Prelude.{◌↔◌, IsTrue}
use Rattle.std.specs.List.{list_all}
use Rattle.verifier_soundness.specs.Rows.{function_has_rows, HaveRows}
use Rattle.verifier_soundness.proofs.Testing.{rows_tested}
use Rattle.verifier_soundness.proofs.rows.have_rows.Goals as goal

pub returns : goal.returns
returns c =
    subst (λ (b : Bool). IsTrue b ↔ HaveRows c.args.allow.now c.args.code.now.functions) (sym (c.all_have_rows.ensures ∙ ap (list_all (function_has_rows c.args.allow.now)) c.as_slice.ensures))
    (rows_tested c.args.allow.now c.args.code.now.functions)
