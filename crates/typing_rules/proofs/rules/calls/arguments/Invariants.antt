use Rattle.std.proofs.Common.{◌≡◌, drop, reverse}
use Rattle.typing_rules.specs.Rules.Calls.{arguments}
use Rattle.typing_rules.proofs.Lists.{behind}
use Rattle.typing_rules.proofs.rules.calls.arguments.Given as goal

-- the arguments so far are cast, and the others are still to be
abbrev pub invariant-loop-parameter : goal.invariant-loop-parameter
invariant-loop-parameter l = arguments l.fn.parameters l.fn.given.items ≡ behind l.casts (arguments (drop l.parameter-index l.parameters) (reverse l.given.items))
