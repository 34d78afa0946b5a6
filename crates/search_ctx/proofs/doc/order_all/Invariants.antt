use Rattle.std.proofs.Common.{◌≡◌}
use Rattle.search_ctx.proofs.Taking.{ordered_front}
use Rattle.search_ctx.proofs.doc.order_all.Given as goal

-- those before the place are in order
abbrev pub invariant-loop-at : goal.invariant-loop-at
invariant-loop-at l = l.values.items ≡ ordered_front l.at l.fn.values.items
