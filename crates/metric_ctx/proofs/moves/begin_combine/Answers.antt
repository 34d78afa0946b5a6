use Rattle.metric_ctx.specs.Shards.{ground}
use Rattle.metric_ctx.specs.declared.phase.Phase.TheVariants as p
use Rattle.metric_ctx.proofs.Beginning.{two_args, run_begins}
use Rattle.metric_ctx.proofs.moves.begin_combine.Goals as goal

pub start-requires : goal.start-requires
start-requires g c = two_args c.args.on.now.params c.in_ok-args.args.items c.in_ok-args.ensures

pub returns : goal.returns
returns g c =
    run_begins g.S.ShardScripts.begun g.S.ShardScripts.rest g.S.ShardScripts.ending c.args.on.now.scripts.now (ground c.args.on.now.fields.now c.args.on.now.params c.args.on.now.room) p.Combine c.args.heap c.in_ok-args.args.items _ c.in_ok-args.ensures c.in_ok-run.ensures
