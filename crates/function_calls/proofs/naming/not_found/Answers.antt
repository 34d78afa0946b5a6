use Rattle.std.proofs.Common.{List, subst}
use Rattle.object_values.specs.declared.value.Value.{Value}
use Rattle.object_heap.specs.Effects.{Answers}
use Rattle.function_calls.specs.Applying.{not_found}
use Rattle.function_calls.proofs.Coming.{fails_come}
use Rattle.function_calls.proofs.naming.not_found.Goals as goal

pub returns : goal.returns
returns c texts allow =
    let heap = c.args.heap.now in
    let name = c.args.name.now in
    fails_come texts allow heap c.not_found_on.new.heap (not_found heap name c.args.values.now) c.args.values.now c.not_found_on.result
    (subst (λ (vs : List Value). Answers (not_found heap name vs) heap c.not_found_on.new.heap c.not_found_on.result) c.as_slice.ensures c.not_found_on.ensures)
