use Rattle.std.proofs.Common.{◌≡◌}
use Rattle.machine_parts.specs.Indexes.{index_rows}
use Rattle.machine_parts.proofs.index_table.IndexTable.new.Given as goal

-- the members of the classes so far
abbrev pub invariant-loop-class : goal.invariant-loop-class
invariant-loop-class l = l.rows ≡ index_rows l.allow l.class
