use Rattle.std.proofs.Common.{◌≡◌, ◌-◌, length, ◌∙◌, sym, ap, arith}
use Rattle.std.specs.Prelude.{slice_get}
use Rattle.instruction_types.specs.Effects.{local_kind}
use Rattle.instruction_types.proofs.Named.{in_front, behind}
use Rattle.instruction_types.proofs.actions.local_kind.Goals as goal

pub returns-then-number-params : goal.returns-then-number-params
unfolding local_kind
returns-then-number-params c =
    let f = c.args.function.now in
    c.copied.ensures ∙ c.get.ensures.value ∙ sym (in_front f.params f.locals c.args.number (omega arith))

pub returns-else-number-params : goal.returns-else-number-params
unfolding local_kind
returns-else-number-params c =
    let f = c.args.function.now in
    let same : c.args.number - c.len-params.result ≡ c.args.number - length f.params = ap (λ n. c.args.number - n) c.len-params.ensures in
    c.copied-else-number-params.ensures ∙ c.get-else-number-params.ensures.value ∙ ap (slice_get f.locals) same ∙ sym (behind f.params f.locals c.args.number (omega arith))
