use Rattle.std.proofs.Common.{◌≡◌, drop}
use Rattle.number_ops.specs.Order as spec
use Rattle.number_ops.proofs.order.text_order.Given as goal

-- the texts differ as what is left of them does
abbrev pub invariant-loop-at : goal.invariant-loop-at
invariant-loop-at l = spec.text_order l.a l.b ≡ spec.text_order (drop l.at l.a) (drop l.at l.b)
