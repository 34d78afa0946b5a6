use Rattle.std.proofs.Common.{◌≡◌}
use Rattle.std.specs.Prelude.{replicate}
use Rattle.container_ops.specs.Types.{default_of}
use Rattle.container_ops.proofs.arrays.defaults.Given as goal

-- the values so far
abbrev pub invariant-places : goal.invariant-places
invariant-places l = l.items ≡ replicate l.place (default_of l.elem)
