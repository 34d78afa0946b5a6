use Rattle.machine_parts.specs.Handlers.{NoneMeets}
use Rattle.machine_parts.proofs.handlers.first_that_meets.Given as goal

-- none so far has one of the lines
abbrev pub invariant-traps : goal.invariant-traps
invariant-traps l = NoneMeets l.fn.traps l.fn.start l.place l.fn.from l.fn.to
