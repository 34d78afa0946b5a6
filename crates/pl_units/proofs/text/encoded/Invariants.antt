-- What was made is the units of the characters so far.
use Rattle.std.proofs.Common.{◌≡◌}
use Rattle.std.specs.List.{flat_map}
use Rattle.pl_units.specs.Utf16.{units_of_scalar}
use Rattle.pl_units.proofs.text.encoded.Given as goal

abbrev pub invariant-loop-scalar : goal.invariant-loop-scalar
invariant-loop-scalar l = l.content.items ≡ flat_map units_of_scalar l.yielded
