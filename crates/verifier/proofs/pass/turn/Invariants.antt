use Rattle.std.proofs.Common.{drop}
use Rattle.verifier.proofs.Passing.{TurnsOn}
use Rattle.verifier.proofs.pass.turn.Given as goal

abbrev pub invariant-loop-line : goal.invariant-loop-line
invariant-loop-line l = TurnsOn l.lines (drop l.line-index l.lines) l.initial.table l.table
