use Rattle.std.proofs.Common.{◌∙◌, sym}
use Rattle.container_outcomes.specs.declared.comparing.Compared.TheVariants.{Same, Other, Deep, Large}
use Rattle.container_outcomes.specs.Comparing.{comparison}
use Rattle.api_map.specs.Sources.{elements}
use Rattle.api_map.proofs.Bulking.{among_step}
use Rattle.api_map.proofs.holding.among.Goals as goal

pub returns-in-Same : goal.returns-in-Same
returns-in-Same c =
    sym (c.loop-at.invariant ∙ among_step (comparison c.args.heap.now.objects c.args.value.now) (elements c.args.heap.now.objects c.args.source) c.loop-at.at c.in-Some.other.now Same (sym c.in-Some.ensures) (sym c.in-Same.ensures))

pub returns-in-Deep : goal.returns-in-Deep
returns-in-Deep c =
    sym (c.loop-at.invariant ∙ among_step (comparison c.args.heap.now.objects c.args.value.now) (elements c.args.heap.now.objects c.args.source) c.loop-at.at c.in-Some.other.now Deep (sym c.in-Some.ensures) (sym c.in-Deep.ensures))

pub returns-in-Large : goal.returns-in-Large
returns-in-Large c =
    sym (c.loop-at.invariant ∙ among_step (comparison c.args.heap.now.objects c.args.value.now) (elements c.args.heap.now.objects c.args.source) c.loop-at.at c.in-Some.other.now Large (sym c.in-Some.ensures) (sym c.in-Large.ensures))

pub loop-at-preserved : goal.loop-at-preserved
loop-at-preserved c =
    c.loop-at.invariant ∙ among_step (comparison c.args.heap.now.objects c.args.value.now) (elements c.args.heap.now.objects c.args.source) c.loop-at.at c.in-Some.other.now Other (sym c.in-Some.ensures) (sym c.in-Other.ensures)
