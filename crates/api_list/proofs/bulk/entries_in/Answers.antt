use Rattle.std.proofs.Common.{◌∙◌, sym}
use Rattle.container_outcomes.specs.declared.comparing.Compared.TheVariants.{Same, Other, Deep, Large}
use Rattle.container_values.specs.Elements.{entry_keys_of}
use Rattle.api_map.specs.declared.sources.Source.TheVariants.{Items}
use Rattle.api_map.specs.Holding.{entry_in}
use Rattle.api_list.proofs.Sifting.{there_step}
use Rattle.api_list.proofs.bulk.entries_in.Goals as goal

pub returns-in-Other : goal.returns-in-Other
returns-in-Other c =
    rw (← c.map_shown-map.ensures) (sym (c.loop-at.invariant
    ∙ there_step (entry_in c.args.heap.now.objects (Items c.args.list) c.map_shown-map.result) (entry_keys_of c.args.heap.now.objects c.args.container) c.loop-at.at c.in-Some.key.now Other (sym c.in-Some.ensures) (sym c.in-Other.ensures)))

pub returns-in-Deep : goal.returns-in-Deep
returns-in-Deep c =
    rw (← c.map_shown-map.ensures) (sym (c.loop-at.invariant
    ∙ there_step (entry_in c.args.heap.now.objects (Items c.args.list) c.map_shown-map.result) (entry_keys_of c.args.heap.now.objects c.args.container) c.loop-at.at c.in-Some.key.now Deep (sym c.in-Some.ensures) (sym c.in-Deep.ensures)))

pub returns-in-Large : goal.returns-in-Large
returns-in-Large c =
    rw (← c.map_shown-map.ensures) (sym (c.loop-at.invariant
    ∙ there_step (entry_in c.args.heap.now.objects (Items c.args.list) c.map_shown-map.result) (entry_keys_of c.args.heap.now.objects c.args.container) c.loop-at.at c.in-Some.key.now Large (sym c.in-Some.ensures) (sym c.in-Large.ensures)))

pub loop-at-preserved : goal.loop-at-preserved
loop-at-preserved c =
    c.loop-at.invariant
    ∙ there_step (entry_in c.args.heap.now.objects (Items c.args.list) c.map_shown-map.result) (entry_keys_of c.args.heap.now.objects c.args.container) c.loop-at.at c.in-Some.key.now Same (sym c.in-Some.ensures) (sym c.in-Same.ensures)
