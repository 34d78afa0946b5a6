use Rattle.std.proofs.Common.{◌≡◌, drop}
use Rattle.verifier.specs.Faults.{traps_fault}
use Rattle.verifier.proofs.functions.traps_fault.Given as goal

abbrev pub invariant-loop-at : goal.invariant-loop-at
invariant-loop-at l = traps_fault l.count 0 l.traps ≡ traps_fault l.count l.at (drop l.at l.traps)
