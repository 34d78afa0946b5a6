use Rattle.std.proofs.Common.{◌++◌, ◌∷◌, [], ◌∙◌, ap, sym}
use Rattle.object_values.specs.declared.value.Value.{Value}
use Rattle.container_values.specs.Elements.{values_of}
use Rattle.container_values.proofs.Places.{value_pushed}
use Rattle.container_values.proofs.taking.values.Goals as goal

pub loop-at-preserved : goal.loop-at-preserved
loop-at-preserved c =
    value_pushed (values_of c.args.heap.now.objects c.args.container) c.loop-at.copy c.push.new.self c.loop-at.at c.in-Some.value.now (sym c.in-Some.ensures)
    (c.in_ok-push.ensures.ok ∙ ap (λ (x : Value). c.loop-at.copy ++ x ∷ []) c.in_ok-value.ensures) c.loop-at.invariant
