use Rattle.std.proofs.Common.{◌∙◌, sym}
use Rattle.container_outcomes.specs.declared.comparing.Compared.TheVariants.{Same, Other, Deep, Large}
use Rattle.api_map.proofs.Steps.{first_step}
use Rattle.api_map.proofs.searching.first_of.Goals as goal

pub returns-in-Same : goal.returns-in-Same
returns-in-Same c =
    sym (c.loop-at.invariant ∙ first_step c.args.heap.now.objects c.args.value.now c.args.pairs.now c.loop-at.at (c.in-Some.field-0-0.now, c.in-Some.other.now) Same c.in-Some.ensures.some (sym c.in-Same.ensures))

pub returns-in-Deep : goal.returns-in-Deep
returns-in-Deep c =
    sym (c.loop-at.invariant ∙ first_step c.args.heap.now.objects c.args.value.now c.args.pairs.now c.loop-at.at (c.in-Some.field-0-0.now, c.in-Some.other.now) Deep c.in-Some.ensures.some (sym c.in-Deep.ensures))

pub returns-in-Large : goal.returns-in-Large
returns-in-Large c =
    sym (c.loop-at.invariant ∙ first_step c.args.heap.now.objects c.args.value.now c.args.pairs.now c.loop-at.at (c.in-Some.field-0-0.now, c.in-Some.other.now) Large c.in-Some.ensures.some (sym c.in-Large.ensures))

pub loop-at-preserved : goal.loop-at-preserved
loop-at-preserved c =
    c.loop-at.invariant ∙ first_step c.args.heap.now.objects c.args.value.now c.args.pairs.now c.loop-at.at (c.in-Some.field-0-0.now, c.in-Some.other.now) Other c.in-Some.ensures.some (sym c.in-Other.ensures)
