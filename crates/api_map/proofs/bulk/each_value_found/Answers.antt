use Rattle.std.proofs.Common.{◌∙◌, sym}
use Rattle.api_map.specs.Collections.{found_in}
use Rattle.api_map.specs.Sources.{elements}
use Rattle.api_map.proofs.Bulking.{each_goes, each_stops}
use Rattle.api_map.proofs.bulk.each_value_found.Goals as goal

pub returns-then-not-is_true : goal.returns-then-not-is_true
returns-then-not-is_true c =
    each_stops (found_in c.args.heap.now.objects c.args.keyed) (elements c.args.heap.now.objects c.args.source) c.loop-at.at c.in-Some.value.now c.found_in-told.result (sym c.in-Some.ensures)
    c.found_in-told.ensures (sym c.is_true.ensures ∙ c.if-not-is_true.true) c.loop-at.invariant

pub loop-at-preserved : goal.loop-at-preserved
loop-at-preserved c =
    each_goes (found_in c.args.heap.now.objects c.args.keyed) (elements c.args.heap.now.objects c.args.source) c.loop-at.at c.in-Some.value.now c.found_in-told.result (sym c.in-Some.ensures)
    c.found_in-told.ensures (sym c.is_true.ensures ∙ c.if-not-is_true.false) c.loop-at.invariant
