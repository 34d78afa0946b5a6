use Rattle.std.proofs.Common.{ap, List}
use Rattle.metric_ctx.specs.Scripts.{comes_by}
use Rattle.metric_ctx.specs.Shards.{Doc, shard}
use Rattle.metric_ctx.proofs.laws.own_lines_alone.Goals as goal

pub returns : goal.returns
returns g c scripts fields params room number lines others agree =
    ap (λ (docs : List Doc). shard (comes_by g.S.ShardScripts.begun g.S.ShardScripts.rest g.S.ShardScripts.ending scripts) fields params room docs) agree
