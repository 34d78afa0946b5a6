use Rattle.std.proofs.Common.{List, ◌+◌, ◌∙◌, ap, drop, sym}
use Rattle.object_values.specs.declared.value.Value.{Value}
use Rattle.api_map.specs.Sources.{elements, with_keys}
use Rattle.api_map.proofs.Copying.{key_step}
use Rattle.api_map.proofs.sources.put_keys.Goals as goal

pub loop-at-preserved : goal.loop-at-preserved
loop-at-preserved c =
    let all = elements c.args.heap.now.objects c.args.source in
    c.loop-at.invariant
    ∙ (key_step c.loop-at.into all c.loop-at.at c.in-Some.key.now (sym c.in-Some.ensures)
    ∙ ap (λ (pairs : List (Value × Value)). with_keys pairs (drop (c.loop-at.at + 1) all)) (sym c.in_ok-put_key.ensures))
