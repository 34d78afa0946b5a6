use Rattle.std.proofs.Common.{◌≡◌, ◌*◌, List, drop}
use Rattle.pl_code.specs.declared.kinds.Slot.{Slot}
use Rattle.verifier_table.specs.Windows.{HasWindows}
use Rattle.verifier.proofs.Takings.{SoFar}
use Rattle.verifier.proofs.call.take_windows.Given as goal

abbrev pub invariant-loop-at : goal.invariant-loop-at
invariant-loop-at l = (l.table.lines ≡ l.initial.table.lines) × ((kinds : List Slot) → HasWindows kinds l.windows → SoFar kinds (drop (31 * l.at) kinds) l.initial.table l.table)
