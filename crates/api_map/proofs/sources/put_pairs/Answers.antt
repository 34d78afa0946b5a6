use Rattle.std.proofs.Common.{List, ◌+◌, ◌∙◌, ap, drop, sym}
use Rattle.object_values.specs.declared.value.Value.{Value}
use Rattle.object_values.specs.Pairs.{with_pairs}
use Rattle.api_map.proofs.Copying.{pair_step}
use Rattle.api_map.proofs.sources.put_pairs.Goals as goal

pub loop-at-preserved : goal.loop-at-preserved
loop-at-preserved c =
    c.loop-at.invariant
    ∙ (pair_step c.loop-at.into c.args.from.now c.loop-at.at (c.in-Some.key.now, c.in-Some.value.now) c.in-Some.ensures.some
    ∙ ap (λ (pairs : List (Value × Value)). with_pairs pairs (drop (c.loop-at.at + 1) c.args.from.now)) (sym c.in_ok-put_pair.ensures))
