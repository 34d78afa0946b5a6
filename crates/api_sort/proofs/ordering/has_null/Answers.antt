use Rattle.std.proofs.Common.{◌∙◌, sym, true, false}
use Rattle.container_values.specs.Elements.{values_of}
use Rattle.api_sort.proofs.Steps.{null_step}
use Rattle.api_sort.proofs.ordering.has_null.Goals as goal

pub returns-then-is_null : goal.returns-then-is_null
returns-then-is_null c =
    sym (c.loop-at.invariant ∙ null_step (values_of c.args.heap.now.objects c.args.container) c.loop-at.at c.in-Some.value.now true (sym c.in-Some.ensures) (sym c.is_null.ensures ∙ c.if-is_null.true))

pub loop-at-preserved : goal.loop-at-preserved
loop-at-preserved c = c.loop-at.invariant ∙ null_step (values_of c.args.heap.now.objects c.args.container) c.loop-at.at c.in-Some.value.now false (sym c.in-Some.ensures) (sym c.is_null.ensures ∙ c.if-is_null.false)
