use Rattle.std.proofs.Common.{refl}
use Rattle.serde_json.specs.View.{view}
use Rattle.write_ctx.proofs.Taking.{keys_done}
use Rattle.write_ctx.proofs.placing.update_pairs.Goals as goal

pub returns-clause-store : goal.returns-clause-store
returns-clause-store c =
    rw (c.loop-key.invariant.0, keys_done (view c.args.line.now) c.args.keys.now c.loop-key.key-index c.loop-key-test.false, ← c.loop-key.invariant.1) refl
