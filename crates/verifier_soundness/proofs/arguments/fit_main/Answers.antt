use Rattle.std.proofs.Common.{◌≡◌, Bool, sym, ap, ◌∙◌, subst}
use Rattle.std.specs.Prelude.{◌↔◌, IsTrue}
use Rattle.verifier_table.specs.Shapes.{same_kinds}
use Rattle.verifier_soundness.specs.Fits.{kinds_of, main_params}
use Rattle.verifier_soundness.proofs.Testing.{kinds_tested, takes_main}
use Rattle.verifier_soundness.proofs.arguments.fit_main.Goals as goal

pub returns-in-Some : goal.returns-in-Some
returns-in-Some c =
    let kinds = kinds_of c.args.arguments.now in
    let main = takes_main c.args.code.now.functions c.in-Some.main.now (sym c.in-Some.ensures.value) in
    subst (λ (b : Bool). IsTrue b ↔ (kinds ≡ main_params c.args.code.now.functions)) (sym (c.are_of.ensures ∙ ap (same_kinds kinds) (c.as_slice.ensures ∙ main)))
    (kinds_tested kinds (main_params c.args.code.now.functions))
