use Rattle.std.proofs.Common.{◌≡◌, ◌≤◌, ◌-◌, drop, length}
use Rattle.std.specs.List.{list_any}
use Rattle.allowlist.specs.Catalogue.{catalogue}
use Rattle.typing_functions.specs.References.{is_prelude_name}
use Rattle.typing_functions.proofs.references.names_prelude.Given as goal

-- no member so far is one
abbrev pub invariant-loop-number : goal.invariant-loop-number
invariant-loop-number l = (list_any (is_prelude_name l.name) catalogue ≡ list_any (is_prelude_name l.name) (drop l.number catalogue)) × (l.number ≤ length l.allow.members)

abbrev pub decreases-loop-number : goal.decreases-loop-number
decreases-loop-number l = length l.allow.members - l.number
