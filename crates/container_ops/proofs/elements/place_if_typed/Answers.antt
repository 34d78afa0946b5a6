use Rattle.std.proofs.Common.{◌≡◌, sym, true, ◌∙◌, to_z-of_z}
use Rattle.object_heap.specs.Fits.{has_type, kinds}
use Rattle.container_ops.proofs.elements.place_if_typed.Goals as goal

pub returns-then-has_type : goal.returns-then-has_type
returns-then-has_type c =
    let lands = rw (to_z-of_z c.ranges.at) at (c.place_in.ensures c.args.item.now) in
    let typed : has_type (kinds c.args.heap.now.objects) c.args.elem.now c.args.item.now ≡ true = sym c.has_type.ensures ∙ c.if-has_type.true in
    rw typed lands
