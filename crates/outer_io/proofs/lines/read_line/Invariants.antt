use Rattle.std.proofs.Common.{◌-◌}
use Rattle.outer_io.proofs.ReadingLemmas.{Progress}
use Rattle.outer_io.proofs.lines.read_line.Given as goal

abbrev pub invariant-pieces : goal.invariant-pieces
invariant-pieces g l =
    Progress l.initial.intake l.intake (g.S.Source.left l.initial.source) (g.S.Source.left l.source) l.line
    (g.S.Source.faults l.initial.source) (g.S.Source.faults l.source)

abbrev pub decreases-pieces : goal.decreases-pieces
decreases-pieces g l = l.intake.limit - l.intake.taken
