use Rattle.std.proofs.Common.{◌≡◌, length}
use Rattle.machine_parts.specs.Handlers.{AreNext}
use Rattle.machine_parts.proofs.handlers.nexts_of.Given as goal

-- there is one for each trap so far
abbrev pub invariant-loop-place : goal.invariant-loop-place
invariant-loop-place l = AreNext l.fn.traps l.nexts × (l.place ≡ length l.nexts)
