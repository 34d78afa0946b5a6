-- Behind what is written come the texts of the pairs that are left.
use Rattle.std.proofs.Common.{◌≡◌, ◌-◌, drop}
use Rattle.std.specs.Prelude.{map}
use Rattle.api_text.specs.Joining as spec
use Rattle.api_text.proofs.Joined.{behind, within}
use Rattle.api_text.proofs.joining.join_pairs.Given as goal

abbrev pub invariant-loop-at : goal.invariant-loop-at
invariant-loop-at l = within (l.heap.room - 1) l.heap.objects l.between (map (spec.element_of l.part) l.pairs) ≡ behind l.heap.objects l.between l.at l.out (map (spec.element_of l.part) (drop l.at l.pairs))
