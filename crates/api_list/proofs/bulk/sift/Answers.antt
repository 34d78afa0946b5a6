use Rattle.std.proofs.Common.{◌∙◌, List, ap, sym}
use Rattle.std.proofs.lemmas.List.{drop_all}
use Rattle.object_values.specs.declared.value.Value.{Value}
use Rattle.api_list.specs.Bulk as spec
use Rattle.api_list.proofs.Sifting.{behind, none_behind, sift_ends, sift_goes, sift_stops}
use Rattle.api_list.proofs.bulk.sift.Goals as goal

pub loop-at-preserved : goal.loop-at-preserved
loop-at-preserved c =
    sift_goes (spec.choose c.args.heap.now.objects c.args.bulk c.args.source) c.args.items.now c.loop-at.left c.sift_one.new.left c.loop-at.at c.in-Some.item.now (sym c.in-Some.ensures) c.in-Ok.ensures c.loop-at.invariant

pub returns-in-Err : goal.returns-in-Err
returns-in-Err c =
    sift_stops (spec.choose c.args.heap.now.objects c.args.bulk c.args.source) c.args.items.now c.loop-at.left c.loop-at.at c.in-Some.item.now c.in-Err.cause (sym c.in-Some.ensures) c.in-Err.ensures c.loop-at.invariant

pub returns : goal.returns
returns c =
    let choose = spec.choose c.args.heap.now.objects c.args.bulk c.args.source in
    none_behind (spec.sift choose c.args.items.now)
    ∙ (c.loop-at.invariant
    ∙ (ap (λ (rest : List Value). behind c.loop-at.left (spec.sift choose rest)) (drop_all c.loop-at.at c.args.items.now c.loop-at-test.false)
    ∙ sift_ends c.loop-at.left))
