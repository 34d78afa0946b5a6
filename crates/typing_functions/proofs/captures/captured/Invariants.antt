use Rattle.std.proofs.Common.{◌≡◌, [], drop}
use Rattle.typing_functions.specs.Captures.{captured}
use Rattle.typing_functions.proofs.captures.captured.Given as goal

-- the names so far are copied, and the others are still to be
abbrev pub invariant-loop-name : goal.invariant-loop-name
invariant-loop-name l = captured l.fn.scopes l.fn.base l.fn.names [] ≡ captured l.scopes l.base (drop l.name-index l.names) l.all
