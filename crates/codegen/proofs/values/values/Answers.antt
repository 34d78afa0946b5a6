use Rattle.codegen.proofs.Lighter.{parts_end, parts_more}
use Rattle.std.proofs.Common.{Some, sym, ap, ◌∙◌, arith}
use Rattle.codegen.specs.Worklist.{items_of}
use Rattle.codegen.proofs.Parts.{values_go, values_stop, keeps_part, keeps_no_part, keeps_unfit, keeps_unended}
use Rattle.codegen.proofs.values.values.Goals as goal

pub returns-clause-back : goal.returns-clause-back
returns-clause-back c =
    rw c.in_ok-push_two.ensures
    (values_go _ (items_of c.args.worklist.now) c.args.config.now c.args.parts.now c.args.at c.get-part.result.now _ _ (sym c.in-Some.ensures.value ∙ ap (λ x. Some x) (sym c.get-part.ensures)) c.in_ok-fits.ensures)

pub returns-in_default-clause-back : goal.returns-in_default-clause-back
returns-in_default-clause-back c = values_stop _ (items_of c.args.worklist.now) c.args.config.now c.args.parts.now c.args.at _ (sym c.in_default.ensures.value) c.in_ok-last.ensures

pub returns-clause-sound : goal.returns-clause-sound
returns-clause-sound c = rw c.in_ok-push_two.ensures (keeps_part _ _ c.args.config.now c.args.parts.now c.args.at c.get-part.result.now c.args.kind (sym c.in-Some.ensures.value ∙ ap (λ x. Some x) (sym c.get-part.ensures)))

pub returns-in_default-clause-sound : goal.returns-in_default-clause-sound
returns-in_default-clause-sound c = keeps_no_part _ _ c.args.config.now c.args.parts.now c.args.at c.args.kind (sym c.in_default.ensures.value)

pub returns-in_err-fits-clause-sound : goal.returns-in_err-fits-clause-sound
returns-in_err-fits-clause-sound c = keeps_unfit _ _ c.args.config.now c.args.parts.now c.args.at c.get-part.result.now c.args.kind _ _ _ (sym c.in-Some.ensures.value ∙ ap (λ x. Some x) (sym c.get-part.ensures)) c.in_err-fits.ensures

pub returns-in_err-last-clause-sound : goal.returns-in_err-last-clause-sound
returns-in_err-last-clause-sound c = keeps_unended _ _ c.args.config.now c.args.parts.now c.args.at c.args.kind _ _ _ (sym c.in_default.ensures.value) c.in_err-last.ensures

pub returns-clause-falls : goal.returns-clause-falls
returns-clause-falls c = rw c.in_ok-push_two.ensures (omega (arith, parts_more c.args.at c.args.parts.now c.get-part.result.now (sym c.in-Some.ensures.value ∙ ap (λ x. Some x) (sym c.get-part.ensures))))

pub returns-in_default-clause-falls : goal.returns-in_default-clause-falls
returns-in_default-clause-falls c = omega (arith, parts_end c.args.at c.args.parts.now (sym c.in_default.ensures.value))
