use Rattle.std.proofs.Common.{◌≡◌, map, take}
use Rattle.machine_parts.specs.Handlers.{linked}
use Rattle.machine_parts.proofs.handlers.linked_all.Given as goal

-- the traps so far are linked
abbrev pub invariant-loop-trap : goal.invariant-loop-trap
invariant-loop-trap l = l.all.items ≡ map linked (take l.trap-index l.traps)
