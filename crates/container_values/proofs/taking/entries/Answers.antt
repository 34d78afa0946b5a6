use Rattle.std.proofs.Common.{◌++◌, ◌∷◌, [], ◌∙◌, ap, sym}
use Rattle.object_values.specs.declared.object.Object.TheVariants as o
use Rattle.object_values.specs.declared.value.Value.{Value}
use Rattle.container_values.specs.Elements.{entry_keys_of}
use Rattle.container_values.proofs.Places.{entry_pushed}
use Rattle.container_values.proofs.taking.entries.Goals as goal

pub loop-at-preserved : goal.loop-at-preserved
loop-at-preserved c =
    entry_pushed c.map_shown-map.result (entry_keys_of c.args.heap.now.objects c.args.container) c.loop-at.made c.push.new.self c.loop-at.at c.in-Some.key.now (sym c.in-Some.ensures)
    (c.in_ok-push.ensures.ok ∙ ap (λ (x : Value). c.loop-at.made ++ o.Entry c.map_shown-map.result x ∷ []) c.in_ok-key.ensures) c.loop-at.invariant
