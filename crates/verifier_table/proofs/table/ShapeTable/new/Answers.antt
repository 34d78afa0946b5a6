use Rattle.std.proofs.Common.{◌≡◌, [], length, ap, arith}
use Rattle.std.specs.Prelude.{replicate}
use Rattle.verifier_table.specs.declared.node.Place.TheVariants as place
use Rattle.verifier_table.specs.Nodes.{stack_at}
use Rattle.verifier_table.proofs.Places.{within_at_first, seen_at_first}
use Rattle.verifier_table.proofs.table.ShapeTable.new.Goals as goal

pub invariant_of-result : goal.invariant_of-result
invariant_of-result c =
    let same : c.in_ok-places.places.items ≡ replicate c.args.lines place.Nowhere = c.in_ok-places.ensures.items_if_clones_equal (λ y e. e) in
    let one : length c.in_ok-stacks.stacks ≡ 1 = ap length c.in_ok-stacks.ensures in
    (omega (arith, one), within_at_first _ c.args.lines _ same)

pub returns : goal.returns
returns c =
    let same : c.in_ok-places.places.items ≡ replicate c.args.lines place.Nowhere = c.in_ok-places.ensures.items_if_clones_equal (λ y e. e) in
    let lines = seen_at_first c.in_ok-stacks.stacks c.args.lines c.in_ok-places.places.items same in
    let stack : stack_at c.in_ok-stacks.stacks 0 ≡ [] = ap (λ ss. stack_at ss 0) c.in_ok-stacks.ensures in
    (λ i. record { stack = stack i; lines = lines i })
