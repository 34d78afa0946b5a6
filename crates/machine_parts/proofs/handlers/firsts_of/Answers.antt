use Rattle.machine_parts.proofs.Handling.{one_longer, one_first}
use Rattle.machine_parts.proofs.handlers.firsts_of.Goals as goal

pub loop-block-preserved : goal.loop-block-preserved
loop-block-preserved c = (
  rw (c.in_ok-push.ensures.ok)
      (one_first c.args.traps.now c.loop-block.firsts c.loop-block.block c.first_that_meets.result c.loop-block.invariant.1 c.loop-block.invariant.0 c.first_that_meets.ensures.none),
  one_longer c.loop-block.block c.loop-block.firsts c.push.new.self c.first_that_meets.result c.loop-block.invariant.1 c.in_ok-push.ensures.ok,
)
