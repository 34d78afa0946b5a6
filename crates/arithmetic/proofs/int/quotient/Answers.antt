use Rattle.std.specs.Int.{w32}
use Rattle.arithmetic.proofs.Quotients.{quotient_is}
use Rattle.arithmetic.proofs.int.quotient.Goals as goal

pub returns-else-b-eq0 : goal.returns-else-b-eq0
returns-else-b-eq0 c = quotient_is w32 _ _ _ c.ranges.a c.ranges.b (record { sfits = c.wrapping_div.type_inv }) c.if-b-eq0.false c.wrapping_div.ensures
