use Rattle.verifier.proofs.Led.{led_twice}
use Rattle.verifier.proofs.successors.merge_into_both.Goals as goal

pub returns : goal.returns
returns c = led_twice _ _ _ _ _ c.merge_into.ensures c.merge_into-2.ensures
