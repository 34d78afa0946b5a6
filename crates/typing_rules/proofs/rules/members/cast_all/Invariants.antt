use Rattle.std.proofs.Common.{◌≡◌, drop, reverse}
use Rattle.typing_rules.specs.Rules.Members.{cast_all}
use Rattle.typing_rules.proofs.Lists.{behind}
use Rattle.typing_rules.proofs.rules.members.cast_all.Given as goal

-- the arguments so far are cast, and the others are still to be
abbrev pub invariant-loop-of : goal.invariant-loop-of
invariant-loop-of l = behind l.fn.before (cast_all l.fn.types l.fn.given.items) ≡ behind l.casts (cast_all (drop l.of-index l.types) (reverse l.given.items))
