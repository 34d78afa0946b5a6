use Rattle.container_values.proofs.Places.{reference_pushed}
use Rattle.container_values.proofs.taking.push_references.Goals as goal

pub loop-at-preserved : goal.loop-at-preserved
loop-at-preserved c = reference_pushed c.args.values.now c.loop-at.values c.push.new.self c.args.from c.loop-at.at c.in_ok-id.id c.in_ok-id.ensures c.in_ok-push.ensures.ok c.loop-at.invariant
