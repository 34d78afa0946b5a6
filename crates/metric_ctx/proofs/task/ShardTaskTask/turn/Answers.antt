use Rattle.std.proofs.Common.{refl}
use Rattle.metric_ctx.specs.Scripts.{comes_by}
use Rattle.metric_ctx.specs.Shards.{ground}
use Rattle.metric_ctx.specs.Standing.{place, standing_by}
use Rattle.metric_ctx.proofs.Moving.{task_turns}
use Rattle.metric_ctx.proofs.task.ShardTaskTask.turn.Goals as goal

pub returns : goal.returns
returns g c =
    task_turns _ _ c.args.q _ _ (place (comes_by g.S.ShardScripts.begun g.S.ShardScripts.rest g.S.ShardScripts.ending c.args.self.now.on.scripts.now) (ground c.args.self.now.on.fields.now c.args.self.now.on.params c.args.self.now.on.room) c.args.self.now.docs.items c.args.self.now.steps (standing_by g.S.ShardScripts.rest g.S.ShardScripts.ending c.args.self.now.standing))
    (place (comes_by g.S.ShardScripts.begun g.S.ShardScripts.rest g.S.ShardScripts.ending c.args.self.now.on.scripts.now) (ground c.args.self.now.on.fields.now c.args.self.now.on.params c.args.self.now.on.room) c.take_turn.new.docs.items c.take_turn.new.steps (standing_by g.S.ShardScripts.rest g.S.ShardScripts.ending c.take_turn.new.standing))
    c.take_turn.result refl refl refl refl c.take_turn.ensures
