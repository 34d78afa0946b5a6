use Rattle.std.proofs.Common.{◌≡◌, length}
use Rattle.machine_parts.specs.Handlers.{AreFirst}
use Rattle.machine_parts.proofs.handlers.firsts_of.Given as goal

-- there is one for each block so far
abbrev pub invariant-loop-block : goal.invariant-loop-block
invariant-loop-block l = AreFirst l.fn.traps l.firsts × (l.block ≡ length l.firsts)
