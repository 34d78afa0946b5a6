use Rattle.std.proofs.Common.{ap}
use Rattle.serde_json.specs.View.{view}
use Rattle.metric_ctx.specs.Standing.{ending_in, rest_in}
use Rattle.metric_ctx.proofs.Beginning.{two_args, shard_begins}
use Rattle.metric_ctx.proofs.task.ShardTask.new.Goals as goal

pub start-requires : goal.start-requires
start-requires g c = two_args c.id_of-params.result c.in_ok-args.args.items c.in_ok-args.ensures

pub returns-clause-rest : goal.returns-clause-rest
returns-clause-rest g c =
    ap rest_in (shard_begins g.S.ShardScripts.begun g.S.ShardScripts.rest g.S.ShardScripts.ending c.args.scripts.now c.args.fields.now (view c.args.params.now) c.args.room c.args.docs.items c.new-heap.result c.place_state.new.heap c.bind.new.heap
    c.in_ok-bound.bound c.id_of-params.result c.in_ok-args.args.items _ c.new-heap.ensures c.in_ok-place_state.ensures c.in_ok-bound.ensures.value c.in_ok-bound.ensures.store c.id_of-params.ensures c.in_ok-args.ensures c.in_ok-run.ensures)

pub returns-clause-ending : goal.returns-clause-ending
returns-clause-ending g c =
    ap ending_in (shard_begins g.S.ShardScripts.begun g.S.ShardScripts.rest g.S.ShardScripts.ending c.args.scripts.now c.args.fields.now (view c.args.params.now) c.args.room c.args.docs.items c.new-heap.result c.place_state.new.heap c.bind.new.heap
    c.in_ok-bound.bound c.id_of-params.result c.in_ok-args.args.items _ c.new-heap.ensures c.in_ok-place_state.ensures c.in_ok-bound.ensures.value c.in_ok-bound.ensures.store c.id_of-params.ensures c.in_ok-args.ensures c.in_ok-run.ensures)
