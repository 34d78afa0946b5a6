use Rattle.update_store.proofs.RunLemmas.{again_none, again_some}
use Rattle.serde_json.specs.View.{view}
use Rattle.update_store.proofs.task.again.Goals as goal

pub returns-then-retries-eq0 : goal.returns-then-retries-eq0
returns-then-retries-eq0 c = λ k. again_none c.args.retries.now k c.args.read c.args.found (view c.in_ok-reply.reply) c.if-retries-eq0.true c.in_ok-reply.ensures

pub returns : goal.returns
returns c = λ k. again_some c.args.retries.now k c.args.read c.args.found c.if-retries-eq0.false
