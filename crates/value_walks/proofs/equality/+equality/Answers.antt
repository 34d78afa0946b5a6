use Rattle.std.proofs.Common.{arith, sym, ◌∙◌}
use Rattle.std.proofs.lemmas.Bool.Decides.{nat_tests}
use Rattle.value_walks.specs.Equality as spec
use Rattle.value_walks.proofs.Stepping.{visit_refs, pair_step}
use Rattle.value_walks.proofs.equality.+equality.Goals as goal

pub equal_at-returns-in-Ref-Ref : goal.equal_at-returns-in-Ref-Ref
equal_at-returns-in-Ref-Ref t c =
    rw (c.in-Ref-Ref.is-0, c.in-Ref-Ref.is-1)
    (c.contents_equal.ensures ∙ sym (visit_refs c.args.levels c.args.visits c.args.heap.now.objects c.in-Ref-Ref.x c.in-Ref-Ref.y (omega arith) (omega arith) c.if-x-y.true))

pub maps_equal-returns-in-On-false-default : goal.maps_equal-returns-in-On-false-default
maps_equal-returns-in-On-false-default t c =
    let step = pair_step (spec.equal_at c.args.levels c.args.heap.now.objects) c.args.left.now c.in-Some.right.now c.loop-at.at (c.in-Some-pair_at.key.now, c.in-Some-pair_at.value.now) c.loop-at.rest c.in-Some-pair_at.ensures.some in
    grind (arith, nat_tests)

pub maps_equal-returns-in-Deep : goal.maps_equal-returns-in-Deep
maps_equal-returns-in-Deep t c =
    let step = pair_step (spec.equal_at c.args.levels c.args.heap.now.objects) c.args.left.now c.in-Some.right.now c.loop-at.at (c.in-Some-pair_at.key.now, c.in-Some-pair_at.value.now) c.loop-at.rest c.in-Some-pair_at.ensures.some in
    grind (arith, nat_tests)

pub maps_equal-returns-in-Large : goal.maps_equal-returns-in-Large
maps_equal-returns-in-Large t c =
    let step = pair_step (spec.equal_at c.args.levels c.args.heap.now.objects) c.args.left.now c.in-Some.right.now c.loop-at.at (c.in-Some-pair_at.key.now, c.in-Some-pair_at.value.now) c.loop-at.rest c.in-Some-pair_at.ensures.some in
    grind (arith, nat_tests)

pub maps_equal-loop-at-preserved : goal.maps_equal-loop-at-preserved
maps_equal-loop-at-preserved t c =
    let step = pair_step (spec.equal_at c.args.levels c.args.heap.now.objects) c.args.left.now c.in-Some.right.now c.loop-at.at (c.in-Some-pair_at.key.now, c.in-Some-pair_at.value.now) c.loop-at.rest c.in-Some-pair_at.ensures.some in
    grind (arith, nat_tests)
