use Rattle.function_calls.specs.Passing.{passed_from}
use Rattle.function_calls.specs.Targets.{own_types}
use Rattle.function_calls.proofs.Passes.{passing_ends, passing_on}
use Rattle.function_calls.proofs.stage.pass_twice.Goals as goal

pub returns-in-Some : goal.returns-in-Some
returns-in-Some c =
    let texts = c.args.texts.now in
    let allow = c.args.allow.now in
    let heap = c.args.heap.now in
    passing_ends texts allow heap c.pass_from.new.heap (passed_from texts allow c.args.first.now 1 heap c.args.values.now)
    (λ now given. passed_from texts allow (own_types allow c.args.aim.now) 1 now given) c.pass_from.new.values c.in-Some.answer c.in-Some.ensures

pub returns-in-None : goal.returns-in-None
returns-in-None c =
    let texts = c.args.texts.now in
    let allow = c.args.allow.now in
    let heap = c.args.heap.now in
    passing_on texts allow heap c.pass_from.new.heap c.pass_own.new.heap (passed_from texts allow c.args.first.now 1 heap c.args.values.now)
    (λ now given. passed_from texts allow (own_types allow c.args.aim.now) 1 now given) c.pass_from.new.values c.pass_own.new.values c.pass_own.result c.in-None.ensures c.pass_own.ensures
