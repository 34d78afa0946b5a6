use Rattle.outer_io.proofs.Pieces.{given_more}
use Rattle.outer_io.proofs.sink.give_all.Goals as goal

pub pieces-preserved : goal.pieces-preserved
pieces-preserved g c =
    given_more _ _ _ _ _ _ _ _ _ _ _ _ _ c.pieces.invariant c.in_ok-count.ensures.bytes c.split_at.ensures.back (c.in_ok-count.ensures.cause.quiet (λ failed. cc))
    (c.in_ok-count.ensures.want.quiet (λ wanted. cc))
