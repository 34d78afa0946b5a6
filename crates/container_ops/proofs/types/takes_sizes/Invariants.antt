use Rattle.std.proofs.Common.{◌≡◌, ◌+◌}
use Rattle.container_ops.specs.Types.{dimensions_of}
use Rattle.container_ops.proofs.types.takes_sizes.Given as goal

-- a `[]` for each turn, and those that are left
abbrev pub invariant-levels : goal.invariant-levels
invariant-levels l = dimensions_of l.of ≡ l.level + dimensions_of l.inner
