use Rattle.std.proofs.Common.{◌≡◌, take}
use Rattle.std.specs.Prelude.{reverse}
use Rattle.verifier_table.specs.Windows.{numeral_of}
use Rattle.verifier.proofs.signatures.window_of.Given as goal

abbrev pub invariant-loop-at : goal.invariant-loop-at
invariant-loop-at l = l.window ≡ numeral_of (take 31 (reverse (take l.at l.kinds)))
