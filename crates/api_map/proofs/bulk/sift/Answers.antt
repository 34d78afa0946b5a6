use Rattle.std.proofs.Common.{◌∙◌, List, ap, arith}
use Rattle.std.proofs.lemmas.List.{drop_all}
use Rattle.object_values.specs.declared.value.Value.{Value}
use Rattle.api_map.specs.Bulk as spec
use Rattle.api_map.proofs.Bulking.{into, sift_ends, sift_goes, sift_stops}
use Rattle.api_map.proofs.bulk.sift.Goals as goal

pub loop-at-preserved : goal.loop-at-preserved
loop-at-preserved c =
    sift_goes (spec.choose c.args.heap.now.objects c.args.search) c.args.pairs.now c.loop-at.left c.sift_one.new.left c.loop-at.at (c.in-Some.key.now, c.in-Some.value.now) c.in-Some.ensures.some c.in-Ok.ensures c.loop-at.invariant

pub returns-in-Err : goal.returns-in-Err
returns-in-Err c =
    sift_stops (spec.choose c.args.heap.now.objects c.args.search) c.args.pairs.now c.loop-at.left c.loop-at.at (c.in-Some.key.now, c.in-Some.value.now) c.in-Err.cause c.in-Some.ensures.some c.in-Err.ensures c.loop-at.invariant

pub returns : goal.returns
returns c =
    let choose = spec.choose c.args.heap.now.objects c.args.search in
    sift_ends choose c.args.pairs.now c.loop-at.left c.len-at-end.ensures.distinct
    (c.loop-at.invariant ∙ ap (λ (rest : List (Value × Value)). into c.loop-at.left (spec.sift choose rest)) (drop_all c.loop-at.at c.args.pairs.now (omega (arith, c.len-at-end.ensures.value))))
