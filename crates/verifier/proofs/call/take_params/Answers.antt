use Rattle.std.proofs.Common.{◌-◌, ◌*◌, length, refl, sym, ap, ◌∙◌, arith}
use Rattle.std.specs.Prelude.{reverse}
use Rattle.std.proofs.lemmas.List.{length-reverse}
use Rattle.instruction_types.specs.Effects.{taken}
use Rattle.verifier.proofs.Cutting.{rest_is}
use Rattle.verifier.proofs.call.take_params.Goals as goal

pub returns-clause-stack : goal.returns-clause-stack
returns-clause-stack c =
    let kinds = c.args.kinds.now in
    let many = length c.args.windows.now in
    c.params.ensures.stack
    ∙ ap (λ ks. taken ks c.take_windows.new.table.stack) (sym (rest_is kinds (31 * many) (length kinds - 31 * many) refl (omega (arith, c.requires.few, length-reverse kinds))))
    ∙ sym (c.if-not-take_windows.ensures.stack (reverse kinds) c.requires)
