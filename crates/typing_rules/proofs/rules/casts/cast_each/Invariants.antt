use Rattle.std.proofs.Common.{◌≡◌, reverse, length}
use Rattle.typing_rules.specs.Rules.Casts.{cast_each}
use Rattle.typing_rules.proofs.Lists.{behind}
use Rattle.typing_rules.proofs.rules.casts.cast_each.Given as goal

-- the parts so far are cast, and the others are still to be
abbrev pub invariant-loop-x : goal.invariant-loop-x
invariant-loop-x l = behind l.fn.before (cast_each l.fn.to l.fn.given.items) ≡ behind l.casts (cast_each l.fn.to (reverse l.given.items))

abbrev pub decreases-loop-x : goal.decreases-loop-x
decreases-loop-x l = length l.given.items
