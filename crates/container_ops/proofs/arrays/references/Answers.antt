use Rattle.std.proofs.Common.{◌+◌, [], refl}
use Rattle.container_values.proofs.Places.{reference_pushed}
use Rattle.container_ops.proofs.arrays.references.Goals as goal

pub places-preserved : goal.places-preserved
places-preserved c =
    reference_pushed [] c.places.items c.push_reference.new.items c.args.first c.places.place (c.args.first + c.places.place) refl c.in_ok-push_reference.ensures c.places.invariant
