use Rattle.std.proofs.Common.{◌≡◌, ◌+◌, ◌-◌, length, false}
use Rattle.line_run.proofs.Pass.{Pass}
use Rattle.line_run.proofs.passing.run_lines.Given as goal

abbrev pub invariant-lines : goal.invariant-lines
invariant-lines g l =
    (l.reader.failed ≡ false)
    × Pass (g.T.Talker.talk l.talker) (g.T.Talker.heard l.talker l.state) l.fn.front.items l.limit l.reader.intake (g.S.Source.left l.initial.input) (g.S.Source.left l.input)
    (g.K.Sink.held l.initial.out) (g.K.Sink.held l.out) l.replies (g.S.Source.faults l.initial.input) (g.S.Source.faults l.input)
    × (g.K.Sink.faults l.out ≡ g.K.Sink.faults l.initial.out)

abbrev pub decreases-lines : goal.decreases-lines
decreases-lines g l = (l.reader.intake.limit - l.reader.intake.taken) + length l.reader.intake.pending
