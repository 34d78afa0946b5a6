use Rattle.std.proofs.Common.{◌≡◌, [], drop}
use Rattle.std.specs.Option.{option_copied}
use Rattle.typing_functions.specs.Chosen.{parameters}
use Rattle.typing_functions.proofs.chosen.parameters.Given as goal

-- the parameters so far stand before the others
abbrev pub invariant-loop-x : goal.invariant-loop-x
invariant-loop-x l = parameters (option_copied l.fn.method) l.fn.names [] ≡ parameters (option_copied l.method) (drop l.x-index l.names) l.all
