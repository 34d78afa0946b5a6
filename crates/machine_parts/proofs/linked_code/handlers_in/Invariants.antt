use Rattle.std.proofs.Common.{◌≡◌, map, take}
use Rattle.machine_parts.specs.Handlers.{linked_traps}
use Rattle.machine_parts.proofs.linked_code.handlers_in.Given as goal

-- those of the functions so far
abbrev pub invariant-loop-function : goal.invariant-loop-function
invariant-loop-function l = l.handlers ≡ map linked_traps (take l.function-index l.functions)
