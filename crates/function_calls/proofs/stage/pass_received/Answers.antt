use Rattle.std.proofs.Common.{Some, ◌∷◌, sym, slice_get, subst}
use Rattle.pl_types.specs.declared.ty.Ty.TheVariants as ty
use Rattle.function_calls.specs.Coming.{PassesAs}
use Rattle.function_calls.specs.Passing.{Passed, passed_from}
use Rattle.function_calls.proofs.Passes.{later_passes, step_ends, step_on}
use Rattle.function_calls.proofs.stage.pass_received.Goals as goal

pub returns-in-Some : goal.returns-in-Some
returns-in-Some c =
    let texts = c.args.texts.now in
    let allow = c.args.allow.now in
    let heap = c.args.heap.now in
    let values = c.args.values.now in
    step_ends texts allow heap c.pass_receiver.new.heap (ty.Class c.args.class) values c.pass_receiver.new.values 1 (slice_get values 1) (λ now given. passed_from texts allow c.args.params.now 2 now given) c.in-Some.answer
    c.in-Some.ensures

pub returns-in-None : goal.returns-in-None
returns-in-None c =
    let texts = c.args.texts.now in
    let allow = c.args.allow.now in
    let heap = c.args.heap.now in
    let values = c.args.values.now in
    let on = step_on texts allow heap c.pass_receiver.new.heap (ty.Class c.args.class) values c.pass_receiver.new.values 1 (slice_get values 1) (λ now given. passed_from texts allow c.args.params.now 2 now given) c.in-None.ensures in
    subst (λ (p : Passed). PassesAs texts allow heap p c.pass_from.new.heap c.pass_from.new.values c.pass_from.result) (sym on.0)
    (later_passes texts allow heap c.pass_receiver.new.heap (passed_from texts allow c.args.params.now 2 c.pass_receiver.new.heap c.pass_receiver.new.values) c.pass_from.new.heap c.pass_from.new.values c.pass_from.result
    on.1 c.pass_from.ensures)
