use Rattle.std.proofs.Common.{◌∙◌, sym}
use Rattle.container_outcomes.specs.declared.comparing.Compared.TheVariants.{Same, Other, Deep, Large}
use Rattle.container_values.specs.Elements.{values_of}
use Rattle.api_map.specs.declared.sources.Source.TheVariants.{Items}
use Rattle.api_map.specs.Holding.{value_in}
use Rattle.api_list.proofs.Sifting.{there_step}
use Rattle.api_list.proofs.bulk.values_in.Goals as goal

pub returns-in-Other : goal.returns-in-Other
returns-in-Other c =
    sym (c.loop-at.invariant
    ∙ there_step (value_in c.args.heap.now.objects (Items c.args.list)) (values_of c.args.heap.now.objects c.args.container) c.loop-at.at c.in-Some.value.now Other (sym c.in-Some.ensures) (sym c.in-Other.ensures))

pub returns-in-Deep : goal.returns-in-Deep
returns-in-Deep c =
    sym (c.loop-at.invariant
    ∙ there_step (value_in c.args.heap.now.objects (Items c.args.list)) (values_of c.args.heap.now.objects c.args.container) c.loop-at.at c.in-Some.value.now Deep (sym c.in-Some.ensures) (sym c.in-Deep.ensures))

pub returns-in-Large : goal.returns-in-Large
returns-in-Large c =
    sym (c.loop-at.invariant
    ∙ there_step (value_in c.args.heap.now.objects (Items c.args.list)) (values_of c.args.heap.now.objects c.args.container) c.loop-at.at c.in-Some.value.now Large (sym c.in-Some.ensures) (sym c.in-Large.ensures))

pub loop-at-preserved : goal.loop-at-preserved
loop-at-preserved c =
    c.loop-at.invariant
    ∙ there_step (value_in c.args.heap.now.objects (Items c.args.list)) (values_of c.args.heap.now.objects c.args.container) c.loop-at.at c.in-Some.value.now Same (sym c.in-Some.ensures) (sym c.in-Same.ensures)
