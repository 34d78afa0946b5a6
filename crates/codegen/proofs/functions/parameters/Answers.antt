use Rattle.std.proofs.Common.{◌≡◌, ◌∷◌, ◌∙◌, rules, ap, length, map, Some, arith}
use Rattle.std.specs.Prelude.{slice_get}
use Rattle.codegen.specs.Worklist.{entry}
use Rattle.codegen.proofs.Whole.{ahead_start, ahead_more, ahead_end, got_item, got_none, has_values_at, length_mapped}
use Rattle.codegen.proofs.functions.parameters.Goals as goal

pub loop-param-preserved : goal.loop-param-preserved
loop-param-preserved c =
    let got : slice_get c.args.all.now c.loop-param.param-index ≡ Some c.param-item.result =
    got_item c.as_slice-param-items.result.now c.args.all.now c.loop-param.param-index c.param-item.result c.as_slice-param-items.ensures c.loop-param-test.true c.param-item.is in
    let local : c.in_ok-local.local ≡ c.loop-param.param-index = c.in_ok-local.ensures ∙ c.len.ensures ∙ c.loop-param.invariant.height in
    record {
      ahead =
          ahead_more c.args.all.now c.loop-param.param-index c.args.params.now c.loop-param.params c.parameter.new.params c.loop-param.scope c.parameter.new.scope c.param-item.result got c.loop-param.invariant.ahead
          c.in_ok-parameter.ensures.present
          (c.in_ok-parameter.ensures.scope ∙ ap (λ n. record { name = c.param-item.result.name; of = c.param-item.result.of; local = n } ∷ map entry c.loop-param.scope) local) c.in_ok-parameter.ensures.kinds;
      height = omega (arith, ap length c.in_ok-parameter.ensures.scope, length_mapped entry c.parameter.new.scope, length_mapped entry c.loop-param.scope, c.loop-param.invariant.height);
    }

pub loop-param-init : goal.loop-param-init
loop-param-init c = record { ahead = ahead_start _ _ _ c.new-scope.ensures; height = ap length c.new-scope.ensures }

pub returns-clause-scope : goal.returns-clause-scope
returns-clause-scope c =
    ahead_end c.args.all.now c.loop-param.param-index c.args.params.now c.loop-param.params c.loop-param.scope
    (got_none c.as_slice-param-items.result.now c.args.all.now c.loop-param.param-index c.as_slice-param-items.ensures c.loop-param-test.false) c.loop-param.invariant.ahead

pub returns-in_err-parameter-clause-total : goal.returns-in_err-parameter-clause-total
returns-in_err-parameter-clause-total c = λ h.
    let got : slice_get c.args.all.now c.loop-param.param-index ≡ Some c.param-item.result =
    got_item c.as_slice-param-items.result.now c.args.all.now c.loop-param.param-index c.param-item.result c.as_slice-param-items.ensures c.loop-param-test.true c.param-item.is in
    let m = c.in_err-parameter.ensures.total (has_values_at c.args.all.now c.loop-param.param-index c.param-item.result got h) in search rules
