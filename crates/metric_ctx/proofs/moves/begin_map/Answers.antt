use Rattle.metric_ctx.specs.Shards.{ground}
use Rattle.metric_ctx.proofs.Beginning.{three_args, map_run_begins}
use Rattle.metric_ctx.proofs.moves.begin_map.Goals as goal

pub start-requires : goal.start-requires
start-requires g c = three_args (ground c.args.on.now.fields.now c.args.on.now.params c.args.on.now.room) c.args.doc.now c.args.heap c.in_ok-doc.doc c.in_ok-args.args.items c.in_ok-doc.ensures.value c.in_ok-args.ensures

pub returns : goal.returns
returns g c =
    map_run_begins g.S.ShardScripts.begun g.S.ShardScripts.rest g.S.ShardScripts.ending c.args.on.now.scripts.now (ground c.args.on.now.fields.now c.args.on.now.params c.args.on.now.room) c.args.doc.now c.args.heap c.place_doc.new.heap c.in_ok-doc.doc c.in_ok-args.args.items _
    c.in_ok-doc.ensures.value c.in_ok-doc.ensures.store c.in_ok-args.ensures c.in_ok-run.ensures
