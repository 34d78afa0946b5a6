use Rattle.std.proofs.Common.{[], ◌∷◌, refl}
use Rattle.function_calls.specs.declared.called.Dues.TheVariants as due
use Rattle.function_calls.specs.Applying.{applied_within, stage}
use Rattle.function_calls.proofs.Coming.{lands_come, moves_come, stops_come}
use Rattle.function_calls.proofs.applying.apply_next.Goals as goal

pub returns-in-Lands : goal.returns-in-Lands
returns-in-Lands c =
    let texts = c.args.texts.now in
    let allow = c.args.allow.now in
    let heap = c.args.heap.now in
    lands_come texts allow heap c.stage.new.heap (stage texts allow [] heap c.args.values.now) (c.args.last ∷ c.args.before ∷ [])
    (λ method now given. applied_within 1 texts allow (method ∷ c.args.last ∷ c.args.before ∷ []) [] now given) c.stage.new.values c.in-Lands.called (due.Two c.args.last c.args.before) refl
    c.in-Lands.ensures

pub returns-in-Moves : goal.returns-in-Moves
returns-in-Moves c =
    let texts = c.args.texts.now in
    let allow = c.args.allow.now in
    let heap = c.args.heap.now in
    moves_come texts allow heap c.stage.new.heap c.apply_last.new.heap (stage texts allow [] heap c.args.values.now) (c.args.last ∷ c.args.before ∷ [])
    (λ method now given. applied_within 1 texts allow (method ∷ c.args.last ∷ c.args.before ∷ []) [] now given) c.stage.new.values c.apply_last.new.values c.in-Moves.method c.apply_last.result
    c.in-Moves.ensures c.apply_last.ensures

pub returns-in-Stops : goal.returns-in-Stops
returns-in-Stops c =
    let texts = c.args.texts.now in
    let allow = c.args.allow.now in
    let heap = c.args.heap.now in
    stops_come texts allow heap c.stage.new.heap (stage texts allow [] heap c.args.values.now) (c.args.last ∷ c.args.before ∷ [])
    (λ method now given. applied_within 1 texts allow (method ∷ c.args.last ∷ c.args.before ∷ []) [] now given) c.stage.new.values c.in-Stops.answer c.in-Stops.ensures
