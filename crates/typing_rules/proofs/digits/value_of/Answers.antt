-- A value past the least long's magnitude stays past it.
use Rattle.std.proofs.Common.{arith}
use Rattle.typing_rules.proofs.Worth.{value_after-next}
use Rattle.typing_rules.proofs.digits.value_of.Goals as goal

pub returns-in-None : goal.returns-in-None
returns-in-None c =
    omega (arith, c.in-None.ensures, value_after-next c.args.base c.loop-digit.value c.args.digits.now c.loop-digit.digit-index c.requires.some c.loop-digit-test.true, c.loop-digit.invariant.worth)
