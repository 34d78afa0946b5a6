use Rattle.std.proofs.Common.{length, refl}
use Rattle.function_calls.specs.Coming.{none_taken}
use Rattle.function_calls.specs.Passing.{passed_from}
use Rattle.function_calls.proofs.Passes.{counted_on, params_done, params_end, params_on}
use Rattle.function_calls.proofs.passing.pass_from.Goals as goal

pub params-init : goal.params-init
params-init c = (refl, none_taken, refl)

pub params-preserved : goal.params-preserved
params-preserved c =
    let texts = c.args.texts.now in
    let allow = c.args.allow.now in
    let whole = passed_from texts allow c.args.params.now c.args.from c.args.heap.now c.args.values.now in
    let l = c.params in
    let on = params_on texts allow c.args.heap.now l.heap c.pass_at.new.heap whole l.left.now c.of-item.result l.at l.values c.pass_at.new.values c.pass_at.result c.in-len1-up.len_at_least c.of-item.is
    c.in_default-pass_at.is l.invariant.0 l.invariant.1 c.pass_at.ensures in
    (on.0, on.1, counted_on l.left.now l.at c.args.from (length c.args.params.now) c.in-len1-up.len_at_least l.invariant.2)

pub returns-in-Some : goal.returns-in-Some
returns-in-Some c =
    let texts = c.args.texts.now in
    let allow = c.args.allow.now in
    let whole = passed_from texts allow c.args.params.now c.args.from c.args.heap.now c.args.values.now in
    let l = c.params in
    params_end texts allow c.args.heap.now l.heap c.pass_at.new.heap whole l.left.now c.of-item.result l.at l.values c.pass_at.new.values c.pass_at.result c.in-Some.answer c.in-len1-up.len_at_least c.of-item.is
    c.in-Some.is l.invariant.0 l.invariant.1 c.pass_at.ensures

pub returns : goal.returns
returns c =
    let texts = c.args.texts.now in
    let allow = c.args.allow.now in
    let whole = passed_from texts allow c.args.params.now c.args.from c.args.heap.now c.args.values.now in
    let l = c.params in
    params_done texts allow c.args.heap.now l.heap whole l.left.now l.at l.values c.in_default.len_below l.invariant.0 l.invariant.1
