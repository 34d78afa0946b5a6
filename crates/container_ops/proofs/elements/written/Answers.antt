use Rattle.std.proofs.Common.{to_z-of_z}
use Rattle.container_ops.specs.Elements.{element_written}
use Rattle.container_ops.proofs.elements.written.Goals as goal

pub returns-in-Err-clause-does : goal.returns-in-Err-clause-does
unfolding element_written
returns-in-Err-clause-does c =
    let lands = rw (to_z-of_z c.ranges.at) at c.in-Err.ensures in
    c.refuse.ensures _ lands.1
