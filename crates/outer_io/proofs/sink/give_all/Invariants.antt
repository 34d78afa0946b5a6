use Rattle.std.proofs.Common.{length}
use Rattle.outer_io.proofs.sink.give_all.Given as goal
use Rattle.outer_io.proofs.Pieces.{Given}

-- what is held has grown by the front that was given
abbrev pub invariant-pieces : goal.invariant-pieces
invariant-pieces g l =
    Given (g.K.Sink.held l.initial.out) (g.K.Sink.held l.out) l.bytes l.rest (g.K.Sink.faults l.initial.out) (g.K.Sink.faults l.out) (g.K.Sink.wants l.initial.out) (g.K.Sink.wants l.out)

abbrev pub decreases-pieces : goal.decreases-pieces
decreases-pieces g l = length l.rest
