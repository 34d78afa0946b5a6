use Rattle.std.proofs.Common.{[], ◌∷◌, refl}
use Rattle.def_resolve.specs.Failures.{does_not_fit, fails}
use Rattle.function_calls.specs.declared.resolved.Resolved.TheVariants as said
use Rattle.function_calls.specs.Applying.{applied_within, stage}
use Rattle.function_calls.specs.Coming.{listed}
use Rattle.function_calls.proofs.Coming.{fails_come, lands_come, moves_come, stops_come}
use Rattle.function_calls.proofs.applying.apply_last.Goals as goal

pub returns-in-Lands : goal.returns-in-Lands
returns-in-Lands c =
    let texts = c.args.texts.now in
    let allow = c.args.allow.now in
    let heap = c.args.heap.now in
    let dues = listed c.args.dues in
    lands_come texts allow heap c.stage.new.heap (stage texts allow [] heap c.args.values.now) dues (λ method now given. applied_within 0 texts allow (method ∷ dues) [] now given) c.stage.new.values
    c.in-Lands.called c.args.dues refl c.in-Lands.ensures

pub returns-in-Moves : goal.returns-in-Moves
returns-in-Moves c =
    let texts = c.args.texts.now in
    let allow = c.args.allow.now in
    let heap = c.args.heap.now in
    let dues = listed c.args.dues in
    moves_come texts allow heap c.stage.new.heap c.throw_unfit.new.heap (stage texts allow [] heap c.args.values.now) dues (λ method now given. applied_within 0 texts allow (method ∷ dues) [] now given)
    c.stage.new.values c.stage.new.values c.in-Moves._method (said.Acts c.throw_unfit.result) c.in-Moves.ensures
    (fails_come texts allow c.stage.new.heap c.throw_unfit.new.heap (fails c.stage.new.heap does_not_fit) c.stage.new.values c.throw_unfit.result c.throw_unfit.ensures)

pub returns-in-Stops : goal.returns-in-Stops
returns-in-Stops c =
    let texts = c.args.texts.now in
    let allow = c.args.allow.now in
    let heap = c.args.heap.now in
    let dues = listed c.args.dues in
    stops_come texts allow heap c.stage.new.heap (stage texts allow [] heap c.args.values.now) dues (λ method now given. applied_within 0 texts allow (method ∷ dues) [] now given) c.stage.new.values
    c.in-Stops.answer c.in-Stops.ensures
