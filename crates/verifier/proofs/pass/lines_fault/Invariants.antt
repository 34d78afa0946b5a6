use Rattle.std.proofs.Common.{◌≤◌}
use Rattle.verifier.specs.Words.{LineWords, LeastLines}
use Rattle.verifier.proofs.Passing.{PassedTo}
use Rattle.verifier.proofs.pass.lines_fault.Given as goal

abbrev pub invariant-loop-line : goal.invariant-loop-line
invariant-loop-line l = PassedTo l.allow l.functions l.function l.line l.table × LineWords l.allow l.functions l.function l.line l.most × (l.initial.most ≤ l.most) × LeastLines l.allow l.functions l.function l.line l.initial.most l.most
