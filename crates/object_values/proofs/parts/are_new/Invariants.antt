use Rattle.std.proofs.Common.{◌++◌, drop, reverse}
use Rattle.object_values.specs.Pairs.{AreNew}
use Rattle.object_values.proofs.parts.are_new.Given as goal

-- where the keys that are still to be looked at are new, all are
abbrev pub invariant-loop-at : goal.invariant-loop-at
invariant-loop-at l = AreNew (l.before ++ reverse l.behind) (drop l.at l.more) → AreNew (l.before ++ reverse l.behind) l.more
