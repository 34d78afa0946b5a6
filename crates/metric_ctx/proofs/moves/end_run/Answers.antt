use Rattle.std.proofs.lemmas.Result.{IfOk-weaker}
use Rattle.metric_ctx.specs.Scripts.{comes_by}
use Rattle.metric_ctx.specs.Shards.{ground}
use Rattle.metric_ctx.specs.Standing.{place, standing_by}
use Rattle.metric_ctx.proofs.Moving.{phase_follows, phase_ends}
use Rattle.metric_ctx.proofs.moves.end_run.Goals as goal

pub returns-in-Init : goal.returns-in-Init
returns-in-Init g c =
    IfOk-weaker c.follow.result _ _
    (λ next reached. phase_follows (comes_by g.S.ShardScripts.begun g.S.ShardScripts.rest g.S.ShardScripts.ending c.args.on.now.scripts.now) (ground c.args.on.now.fields.now c.args.on.now.params c.args.on.now.room) c.args.docs.now.items c.args.steps.now c.args.phase (g.S.ShardScripts.ending c.args.run) _ (place (comes_by g.S.ShardScripts.begun g.S.ShardScripts.rest g.S.ShardScripts.ending c.args.on.now.scripts.now) (ground c.args.on.now.fields.now c.args.on.now.params c.args.on.now.room) c.follow.new.docs.items c.follow.new.steps (standing_by g.S.ShardScripts.rest g.S.ShardScripts.ending next))
    c.in-Init.is c.in_ok-outcome.ensures reached)
    c.follow.ensures

pub returns-in-Combine : goal.returns-in-Combine
returns-in-Combine g c =
    phase_ends (comes_by g.S.ShardScripts.begun g.S.ShardScripts.rest g.S.ShardScripts.ending c.args.on.now.scripts.now) (ground c.args.on.now.fields.now c.args.on.now.params c.args.on.now.room) c.args.docs.now.items c.args.steps.now c.args.phase (g.S.ShardScripts.ending c.args.run) _ (standing_by g.S.ShardScripts.rest g.S.ShardScripts.ending c.ended.result) c.in-Combine.is c.in_ok-outcome.ensures (c.ended.ensures g.S.ShardScripts.rest g.S.ShardScripts.ending)
