use Rattle.std.proofs.Common.{◌≡◌, length, take}
use Rattle.typing_rules.proofs.scopes.Scopes.close.Given as goal

abbrev pub invariant-loop-self : goal.invariant-loop-self
invariant-loop-self l = take l.fn.height l.self ≡ take l.fn.height l.fn.self

abbrev pub decreases-loop-self : goal.decreases-loop-self
decreases-loop-self l = length l.self
