use Rattle.function_calls.specs.Passing.{passed_twice}
use Rattle.function_calls.specs.Targets.{own_types}
use Rattle.function_calls.proofs.Staging.{after_passed, cast_ends}
use Rattle.function_calls.proofs.stage.stage_passed.Goals as goal

pub returns-in-Some : goal.returns-in-Some
returns-in-Some c =
    let texts = c.args.texts.now in
    let allow = c.args.allow.now in
    let heap = c.args.heap.now in
    cast_ends texts allow heap c.pass_twice.new.heap c.args.aim (passed_twice texts allow c.args.first.now (own_types allow c.args.aim) heap c.args.values.now) c.pass_twice.new.values c.in-Some.answer
    c.in-Some.ensures

pub returns-in-None : goal.returns-in-None
returns-in-None c =
    let texts = c.args.texts.now in
    let allow = c.args.allow.now in
    let heap = c.args.heap.now in
    after_passed texts allow heap c.pass_twice.new.heap c.land.new.heap c.args.aim (passed_twice texts allow c.args.first.now (own_types allow c.args.aim) heap c.args.values.now) c.pass_twice.new.values
    c.land.new.values c.land.result c.in-None.ensures c.land.ensures
