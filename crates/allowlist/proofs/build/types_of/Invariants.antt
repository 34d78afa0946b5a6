use Rattle.std.proofs.Common.{◌≡◌, take, map}
use Rattle.allowlist.specs.Rows.{seen_type}
use Rattle.allowlist.proofs.build.types_of.Given as goal

abbrev pub invariant-loop-row : goal.invariant-loop-row
invariant-loop-row l = l.made.items ≡ map (seen_type l.owner) (take l.row-index l.rows)
