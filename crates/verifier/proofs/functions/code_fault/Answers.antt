use Rattle.std.proofs.Common.{◌∙◌, sym, length, arith}
use Rattle.verifier.proofs.Passing.{next_item, no_item}
use Rattle.verifier.proofs.Counting.{some_functions, first_function, function_passes, function_breaks, all_functions}
use Rattle.verifier.proofs.Counted.{no_functions, one_function, fewer_functions, least_no_function, least_function, least_functions}
use Rattle.verifier.proofs.functions.code_fault.Goals as goal

pub loop-function-init : goal.loop-function-init
loop-function-init c = (
  first_function c.args.allow.now c.args.functions.now (some_functions c.args.functions.now (sym c.is_empty.ensures ∙ c.if-is_empty.false)),
  no_functions c.args.allow.now c.args.functions.now c.args.most.now,
  least_no_function c.args.allow.now c.args.functions.now c.args.most.now,
)

pub loop-function-preserved : goal.loop-function-preserved
loop-function-preserved c = (
  function_passes c.args.allow.now c.args.functions.now _ _ c.function-item.result c.loop-function.first c.behind_function-first.result c.loop-function.invariant.0
      (next_item c.args.functions.now c.loop-function.function-index c.function-item.result c.function-item.is c.loop-function-test.true)
      (λ n is. sym c.in-None.is ∙ c.in_ok-function_fault.ensures.fault n is) c.behind_function-first.ensures,
  one_function c.args.allow.now c.args.functions.now c.loop-function.function-index c.loop-function.most c.function_fault.new.most c.function-item.result c.loop-function.invariant.1
      c.in_ok-function_fault.ensures.rises c.function-item.is (c.in_ok-function_fault.ensures.words c.in-None.is),
  least_function c.args.allow.now c.args.functions.now c.loop-function.function-index c.args.most.now c.loop-function.most c.function_fault.new.most c.function-item.result c.loop-function.invariant.2
      c.loop-function-test.true c.function-item.is (c.in_ok-function_fault.ensures.least c.in-None.is),
)

pub returns-in-Some-clause-fault : goal.returns-in-Some-clause-fault
returns-in-Some-clause-fault c =
    function_breaks c.args.allow.now c.args.functions.now _ _ c.function-item.result c.loop-function.first c.in-Some.found c.loop-function.invariant.0
    (next_item c.args.functions.now c.loop-function.function-index c.function-item.result c.function-item.is c.loop-function-test.true)
    (λ n is. sym c.in-Some.is ∙ c.in_ok-function_fault.ensures.fault n is)

pub returns-clause-words : goal.returns-clause-words
returns-clause-words c none =
    fewer_functions c.args.allow.now c.args.functions.now c.loop-function.function-index (length c.args.functions.now) c.loop-function.most c.loop-function.invariant.1 (omega (arith, c.loop-function-test.false))

pub returns-clause-least : goal.returns-clause-least
returns-clause-least c none =
    least_functions c.args.allow.now c.args.functions.now c.loop-function.function-index (length c.args.functions.now) c.args.most.now c.loop-function.most c.loop-function.invariant.2 (omega (arith, c.loop-function-test.false))

pub returns-clause-fault : goal.returns-clause-fault
returns-clause-fault c = all_functions c.args.allow.now c.args.functions.now _ c.loop-function.first c.loop-function.invariant.0 (no_item c.args.functions.now c.loop-function.function-index c.loop-function-test.false)
