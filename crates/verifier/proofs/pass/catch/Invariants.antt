use Rattle.std.proofs.Common.{drop}
use Rattle.verifier.proofs.Passing.{CatchesOn}
use Rattle.verifier.proofs.pass.catch.Given as goal

abbrev pub invariant-loop-trap : goal.invariant-loop-trap
invariant-loop-trap l = CatchesOn l.traps (drop l.trap-index l.traps) l.initial.table l.table
