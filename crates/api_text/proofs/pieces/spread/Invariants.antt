-- What is written, and then the same of the units that are left.
use Rattle.std.proofs.Common.{◌≡◌, ◌++◌, drop}
use Rattle.api_text.specs.Pieces as spec
use Rattle.api_text.proofs.pieces.spread.Given as goal

abbrev pub invariant-loop-unit : goal.invariant-loop-unit
invariant-loop-unit l = spec.spread l.by l.text ≡ l.out.items ++ spec.spread l.by (drop l.unit-index l.text)
