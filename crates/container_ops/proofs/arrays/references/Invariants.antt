use Rattle.std.proofs.Common.{◌≡◌}
use Rattle.container_values.specs.Elements.{references}
use Rattle.container_ops.proofs.arrays.references.Given as goal

-- the references so far
abbrev pub invariant-places : goal.invariant-places
invariant-places l = l.items ≡ references l.first l.place
