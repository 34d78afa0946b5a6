use Rattle.std.proofs.Common.{◌≡◌, [], drop}
use Rattle.typing_rules.specs.Rules.Functions.{parameters}
use Rattle.typing_rules.proofs.rules.functions.parameters.Given as goal

-- the parameters so far stand before the others
abbrev pub invariant-loop-one : goal.invariant-loop-one
invariant-loop-one l = parameters l.fn.all [] ≡ parameters (drop l.one-index l.all) l.names
