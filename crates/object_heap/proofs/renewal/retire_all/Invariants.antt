use Rattle.std.proofs.Common.{◌≡◌}
use Rattle.object_heap.proofs.Retiring.{retired_front}
use Rattle.object_heap.proofs.renewal.retire_all.Given as goal

-- those before the place are retired
abbrev pub invariant-loop-at : goal.invariant-loop-at
invariant-loop-at l = l.objects.items ≡ retired_front l.at l.fn.objects.items
