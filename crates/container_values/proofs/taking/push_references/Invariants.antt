use Rattle.std.proofs.Common.{◌≡◌, ◌++◌}
use Rattle.container_values.specs.Elements.{references}
use Rattle.container_values.proofs.taking.push_references.Given as goal

-- so many references stand behind the values
abbrev pub invariant-loop-at : goal.invariant-loop-at
invariant-loop-at l = l.values ≡ l.initial.values ++ references l.from l.at
