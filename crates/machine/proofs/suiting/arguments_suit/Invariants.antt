use Rattle.std.proofs.Common.{◌≡◌, length}
use Rattle.run_state.specs.Calls.{arguments_suit}
use Rattle.machine.proofs.suiting.arguments_suit.Given as goal

-- those that were looked at suit
abbrev pub invariant-arguments : goal.invariant-arguments
invariant-arguments l = arguments_suit l.heap.objects l.params l.values ≡ arguments_suit l.heap.objects l.types l.arguments

abbrev pub decreases-arguments : goal.decreases-arguments
decreases-arguments l = length l.types
