use Rattle.std.proofs.Common.{◌≡◌, drop}
use Rattle.typing_rules.specs.Typing.{functions}
use Rattle.static_types.proofs.Functions.{behind}
use Rattle.static_types.proofs.program.functions.Given as goal

-- the functions so far are typed, and the others are still to be
abbrev pub invariant-loop-f : goal.invariant-loop-f
invariant-loop-f l = functions l.fn.allow l.fn.headers l.fn.functions l.fn.headers ≡ behind l.done (functions l.fn.allow l.fn.headers (drop l.f-index l.functions) l.left)
