use Rattle.std.proofs.Common.{◌≡◌, ◌+◌, ◌-◌, length, false}
use Rattle.outer_io.specs.Runs.{shown}
use Rattle.outer_io.proofs.RunLemmas.{Run}
use Rattle.outer_io.proofs.lines.read_lines.Given as goal

abbrev pub invariant-lines : goal.invariant-lines
invariant-lines g l =
    (l.reader.failed ≡ false)
    × Run l.limit l.reader.intake (g.S.Source.left l.initial.source) (g.S.Source.left l.source) (shown l.initial.lines.items) (shown l.lines.items)
    (g.S.Source.faults l.initial.source) (g.S.Source.faults l.source)

abbrev pub decreases-lines : goal.decreases-lines
decreases-lines g l = (l.reader.intake.limit - l.reader.intake.taken) + length l.reader.intake.pending
