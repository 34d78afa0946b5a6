-- Behind what is written come the texts of the values that are left.
use Rattle.std.proofs.Common.{◌≡◌, ◌-◌, drop}
use Rattle.std.specs.Prelude.{map}
use Rattle.value_walks.specs.Texts.{AValue}
use Rattle.api_text.proofs.Joined.{behind, within}
use Rattle.api_text.proofs.joining.join_values.Given as goal

abbrev pub invariant-loop-at : goal.invariant-loop-at
invariant-loop-at l = within (l.heap.room - 1) l.heap.objects l.between (map AValue l.values) ≡ behind l.heap.objects l.between l.at l.out (map AValue (drop l.at l.values))
