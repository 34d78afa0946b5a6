use Rattle.std.proofs.Common.{◌≡◌, [], drop}
use Rattle.typing_rules.specs.Rules.Functions.{headers}
use Rattle.typing_rules.proofs.rules.functions.headers.Given as goal

-- the headers so far stand before the others
abbrev pub invariant-loop-f : goal.invariant-loop-f
invariant-loop-f l = headers l.fn.functions [] ≡ headers (drop l.f-index l.functions) l.headers
