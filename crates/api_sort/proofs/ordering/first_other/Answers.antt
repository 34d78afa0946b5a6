use Rattle.std.proofs.Common.{◌∙◌, sym, true, false}
use Rattle.container_values.specs.Elements.{values_of}
use Rattle.api_sort.proofs.Steps.{other_step}
use Rattle.api_sort.proofs.ordering.first_other.Goals as goal

pub returns-then-not-are_compared : goal.returns-then-not-are_compared
returns-then-not-are_compared c =
    sym (c.loop-at.invariant ∙ other_step c.args.first.now (values_of c.args.heap.now.objects c.args.container) c.loop-at.at c.in-Some.value.now false (sym c.in-Some.ensures) (sym c.are_compared.ensures ∙ c.if-not-are_compared.true))

pub loop-at-preserved : goal.loop-at-preserved
loop-at-preserved c =
    c.loop-at.invariant ∙ other_step c.args.first.now (values_of c.args.heap.now.objects c.args.container) c.loop-at.at c.in-Some.value.now true (sym c.in-Some.ensures) (sym c.are_compared.ensures ∙ c.if-not-are_compared.false)
