use Rattle.std.proofs.Common.{map, ap, ◌∙◌}
use Rattle.instruction_types.specs.Faults.{is_value_function}
use Rattle.verifier.proofs.Cutting.{one_value, all_of}
use Rattle.verifier.proofs.signatures.all_values.Goals as goal

pub loop-function-preserved : goal.loop-function-preserved
loop-function-preserved c =
    one_value c.args.functions.now c.loop-function.function-index c.function-item.result c.loop-function.values _ _ c.loop-function.invariant c.is_value_function.ensures c.in_ok-push.ensures.ok
    c.function-item.is c.loop-function-test.true

pub returns : goal.returns
returns c = c.loop-function.invariant ∙ ap (map is_value_function) (all_of c.args.functions.now c.loop-function.function-index c.loop-function-test.false)
