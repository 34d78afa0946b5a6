use Rattle.codegen.proofs.Lighter.{row_more}
use Rattle.std.proofs.Common.{Some, sym, ap, ◌∙◌, arith}
use Rattle.std.proofs.lemmas.Result.{on_ok_weaker}
use Rattle.codegen.specs.Worklist.{items_of}
use Rattle.codegen.proofs.Rows.{row_go, row_end}
use Rattle.codegen.proofs.Agreeing.{keeps_row, keeps_row_end}
use Rattle.codegen.proofs.scopes.row.Goals as goal

pub returns-clause-back : goal.returns-clause-back
returns-clause-back c = rw c.in_ok-push.ensures (row_go _ (items_of c.args.worklist.now) c.args.config.now c.args.exits c.args.all.now c.args.at c.get-s.result.now (sym c.in-Some.ensures.value ∙ ap (λ x. Some x) (sym c.get-s.ensures)))

pub returns-in_default-clause-back : goal.returns-in_default-clause-back
returns-in_default-clause-back c =
    on_ok_weaker c.finish.result (λ d. row_end _ (items_of c.args.worklist.now) c.args.config.now c.args.exits c.args.all.now c.args.at _ (sym c.in_default.ensures.value) d) c.finish.ensures.back

pub returns-clause-sound : goal.returns-clause-sound
returns-clause-sound c = rw c.in_ok-push.ensures
    (keeps_row _ (items_of c.args.worklist.now) c.args.config.now c.args.exits c.args.all.now c.args.at c.get-s.result.now (sym c.in-Some.ensures.value ∙ ap (λ x. Some x) (sym c.get-s.ensures)))

pub returns-in_default-clause-sound : goal.returns-in_default-clause-sound
returns-in_default-clause-sound c = keeps_row_end _ (items_of c.args.worklist.now) c.args.config.now c.args.exits c.args.all.now c.args.at _ _ (sym c.in_default.ensures.value) c.finish.ensures.sound

pub returns-clause-falls : goal.returns-clause-falls
returns-clause-falls c = rw c.in_ok-push.ensures (omega (arith, row_more c.args.at c.args.all.now c.get-s.result.now (sym c.in-Some.ensures.value ∙ ap (λ x. Some x) (sym c.get-s.ensures))))

pub returns-in_default-clause-falls : goal.returns-in_default-clause-falls
returns-in_default-clause-falls c = on_ok_weaker c.finish.result (λ d. omega (arith, d)) c.finish.ensures.falls
