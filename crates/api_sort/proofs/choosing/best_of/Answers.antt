use Rattle.std.proofs.Common.{◌+◌, ◌∙◌, ap, sym, drop}
use Rattle.object_values.specs.declared.value.Value.{Value}
use Rattle.container_values.specs.Elements.{values_of}
use Rattle.api_sort.specs.Choosing as spec
use Rattle.api_sort.proofs.Steps.{best_step}
use Rattle.api_sort.proofs.choosing.best_of.Goals as goal

pub loop-at-preserved : goal.loop-at-preserved
loop-at-preserved c =
    let all = values_of c.args.heap.now.objects c.args.container in
    c.loop-at.invariant
    ∙ (best_step c.args.which all c.loop-at.at c.loop-at.best.now c.in-Some.value.now (sym c.in-Some.ensures)
    ∙ ap (λ (best : Value). spec.best_of c.args.which best (drop (c.loop-at.at + 1) all)) (sym c.better-best.ensures))
