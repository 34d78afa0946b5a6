use Rattle.std.proofs.Common.{◌∙◌, List, ap, sym}
use Rattle.object_values.specs.declared.object.Object.TheVariants as o
use Rattle.object_values.specs.declared.object.Guard.TheVariants as g
use Rattle.object_values.specs.declared.value.Value.{Value}
use Rattle.object_values.specs.declared.value.Value.TheVariants as v
use Rattle.container_outcomes.specs.declared.outcome.Outcome.TheVariants.{Becomes}
use Rattle.api_sort.proofs.Agreeing.{in_natural_order}
use Rattle.api_sort.proofs.sorting.items_sorted.Goals as goal

pub returns-in-Ok : goal.returns-in-Ok
returns-in-Ok c =
    ap (λ (items : List Value). Becomes c.args.id (o.List c.args.class items g.Open c.args.changes) v.Null) (in_natural_order c.args.heap.now.objects c.args.items.now c.requires ∙ sym c.in-Ok.ensures)
