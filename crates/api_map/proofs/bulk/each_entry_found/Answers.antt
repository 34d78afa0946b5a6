use Rattle.std.proofs.Common.{◌∙◌, sym}
use Rattle.object_values.specs.declared.object.Part.TheVariants.{Keys}
use Rattle.api_map.specs.declared.sources.Source.TheVariants.{Pairs}
use Rattle.api_map.specs.Bulk.{entry_found_in}
use Rattle.api_map.specs.Sources.{elements}
use Rattle.api_map.proofs.Bulking.{each_goes, each_stops}
use Rattle.api_map.proofs.bulk.each_entry_found.Goals as goal

pub returns-then-not-is_true : goal.returns-then-not-is_true
returns-then-not-is_true c =
    each_stops (entry_found_in c.args.heap.now.objects c.args.keyed c.args.from) (elements c.args.heap.now.objects (Pairs c.args.from Keys)) c.loop-at.at c.in-Some.key.now c.entry_found_in-told.result (sym c.in-Some.ensures)
    c.entry_found_in-told.ensures (sym c.is_true.ensures ∙ c.if-not-is_true.true) c.loop-at.invariant

pub loop-at-preserved : goal.loop-at-preserved
loop-at-preserved c =
    each_goes (entry_found_in c.args.heap.now.objects c.args.keyed c.args.from) (elements c.args.heap.now.objects (Pairs c.args.from Keys)) c.loop-at.at c.in-Some.key.now c.entry_found_in-told.result (sym c.in-Some.ensures)
    c.entry_found_in-told.ensures (sym c.is_true.ensures ∙ c.if-not-is_true.false) c.loop-at.invariant
