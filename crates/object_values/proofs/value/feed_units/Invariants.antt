use Rattle.std.proofs.Common.{◌≡◌, length}
use Rattle.std.specs.Prelude.{fold}
use Rattle.object_values.specs.Keys.{units_fed}
use Rattle.object_values.proofs.value.feed_units.Given as goal

-- what is still to be fed leads to what all units lead to
abbrev pub invariant-loop-rest : goal.invariant-loop-rest
invariant-loop-rest g l = fold g.H.Hasher.write l.state (units_fed l.rest) ≡ fold g.H.Hasher.write l.fn.state (units_fed l.fn.units)

abbrev pub decreases-loop-rest : goal.decreases-loop-rest
decreases-loop-rest g l = length l.rest
