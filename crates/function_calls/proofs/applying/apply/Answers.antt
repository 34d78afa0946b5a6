use Rattle.std.proofs.Common.{[], ◌∷◌, refl}
use Rattle.function_calls.specs.declared.called.Dues.TheVariants as due
use Rattle.function_calls.specs.Applying.{applied, applied_within, stage}
use Rattle.function_calls.proofs.Coming.{lands_come, moves_come, stops_come}
use Rattle.function_calls.proofs.applying.apply.Goals as goal

pub returns-in-Lands : goal.returns-in-Lands
unfolding applied
returns-in-Lands c =
    let texts = c.args.texts.now in
    let allow = c.args.allow.now in
    let heap = c.args.heap.now in
    lands_come texts allow heap c.stage.new.heap (stage texts allow c.args.first.now heap c.args.values.now) (c.args.method ∷ [])
    (λ method now given. applied_within 2 texts allow (method ∷ c.args.method ∷ []) [] now given) c.stage.new.values c.in-Lands.called (due.One c.args.method) refl c.in-Lands.ensures

pub returns-in-Moves : goal.returns-in-Moves
unfolding applied
returns-in-Moves c =
    let texts = c.args.texts.now in
    let allow = c.args.allow.now in
    let heap = c.args.heap.now in
    moves_come texts allow heap c.stage.new.heap c.apply_next.new.heap (stage texts allow c.args.first.now heap c.args.values.now) (c.args.method ∷ [])
    (λ method now given. applied_within 2 texts allow (method ∷ c.args.method ∷ []) [] now given) c.stage.new.values c.apply_next.new.values c.in-Moves.last c.apply_next.result c.in-Moves.ensures
    c.apply_next.ensures

pub returns-in-Stops : goal.returns-in-Stops
unfolding applied
returns-in-Stops c =
    let texts = c.args.texts.now in
    let allow = c.args.allow.now in
    let heap = c.args.heap.now in
    stops_come texts allow heap c.stage.new.heap (stage texts allow c.args.first.now heap c.args.values.now) (c.args.method ∷ [])
    (λ method now given. applied_within 2 texts allow (method ∷ c.args.method ∷ []) [] now given) c.stage.new.values c.in-Stops.answer c.in-Stops.ensures
