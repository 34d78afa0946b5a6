use Rattle.std.proofs.Common.{Some, None, List, slice_get, subst}
use Rattle.object_values.specs.declared.value.Value.{Value}
use Rattle.function_calls.specs.Coming.{MeetsAs}
use Rattle.function_calls.specs.Passing.{meets}
use Rattle.function_calls.proofs.Passes.{meet_none, meet_put}
use Rattle.function_calls.proofs.passing.pass_at.Goals as goal

pub returns-in-Some : goal.returns-in-Some
returns-in-Some c =
    let texts = c.args.texts.now in
    let allow = c.args.allow.now in
    let heap = c.args.heap.now in
    let values = c.args.values.now in
    meet_put texts allow heap c.told_at.new.heap c.args.of.now values c.put_cast.new.values c.args.at (slice_get values c.args.at) c.in-Some.told c.put_cast.result
    (subst (λ (vs : List Value). MeetsAs heap c.told_at.new.heap (meets texts allow heap c.args.of.now) (slice_get vs c.args.at) (Some c.in-Some.told)) c.as_slice.ensures c.in-Some.ensures)
    c.put_cast.ensures

pub returns-in-None : goal.returns-in-None
returns-in-None c =
    let texts = c.args.texts.now in
    let allow = c.args.allow.now in
    let heap = c.args.heap.now in
    let values = c.args.values.now in
    meet_none texts allow heap c.told_at.new.heap c.args.of.now values c.args.at (slice_get values c.args.at)
    (subst (λ (vs : List Value). MeetsAs heap c.told_at.new.heap (meets texts allow heap c.args.of.now) (slice_get vs c.args.at) None) c.as_slice.ensures c.in-None.ensures)
