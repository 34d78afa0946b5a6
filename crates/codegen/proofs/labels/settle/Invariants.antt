use Rattle.std.proofs.Common.{◌≡◌, ◌++◌, length, map}
use Rattle.codegen.specs.Labels.{settled_line}
use Rattle.codegen.proofs.labels.settle.Given as goal

abbrev pub invariant-loop-line : goal.invariant-loop-line
invariant-loop-line l = map (settled_line l.labels) l.fn.lines ≡ map (settled_line l.labels) l.lines ++ l.settled

abbrev pub decreases-loop-line : goal.decreases-loop-line
decreases-loop-line l = length l.lines
