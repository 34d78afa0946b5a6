-- The same units are left.
use Rattle.std.proofs.Common.{◌≡◌, length}
use Rattle.api_text.specs.Making as spec
use Rattle.api_text.proofs.making.trimmed_in_front.Given as goal

abbrev pub invariant-loop-unit : goal.invariant-loop-unit
invariant-loop-unit l = spec.trimmed_in_front l.units ≡ spec.trimmed_in_front l.rest

abbrev pub decreases-loop-unit : goal.decreases-loop-unit
decreases-loop-unit l = length l.rest
