use Rattle.std.proofs.Common.{◌≡◌, ◌∙◌, sym, true, false, arith}
use Rattle.std.proofs.lemmas.Bool.Decides.{nat_tests}
use Rattle.object_values.specs.Values.{is_simple}
use Rattle.api_map.specs.Sources.{elements}
use Rattle.api_map.proofs.Copying.{not_simple_behind, simple_behind}
use Rattle.api_map.proofs.sources.all_simple.Goals as goal

pub returns-then-not-is_simple : goal.returns-then-not-is_simple
returns-then-not-is_simple c =
    let is : is_simple c.in-Some.value.now ≡ false = grind (arith, nat_tests) in
    sym (c.loop-at.invariant ∙ not_simple_behind (elements c.args.heap.now.objects c.args.source) c.loop-at.at c.in-Some.value.now (sym c.in-Some.ensures) is)

pub loop-at-preserved : goal.loop-at-preserved
loop-at-preserved c =
    let is : is_simple c.in-Some.value.now ≡ true = grind (arith, nat_tests) in
    c.loop-at.invariant ∙ simple_behind (elements c.args.heap.now.objects c.args.source) c.loop-at.at c.in-Some.value.now (sym c.in-Some.ensures) is
