use Rattle.std.proofs.lemmas.Result.{IfOk-weaker}
use Rattle.std.proofs.Common.{◌≡◌, [], rules, arith}
use Rattle.metric_ctx.specs.Scripts.{comes_by}
use Rattle.metric_ctx.specs.Shards.{ground}
use Rattle.metric_ctx.specs.Standing.{standing_by}
use Rattle.metric_ctx.proofs.Moving.{map_begins, combine_begins}
use Rattle.metric_ctx.proofs.moves.begin_next.Goals as goal

pub returns-in-Some : goal.returns-in-Some
returns-in-Some g c =
    IfOk-weaker c.begin_map.result _ _
    (λ next is steps. map_begins (comes_by g.S.ShardScripts.begun g.S.ShardScripts.rest g.S.ShardScripts.ending c.args.on.now.scripts.now) (ground c.args.on.now.fields.now c.args.on.now.params c.args.on.now.room) c.args.docs.now.items c.pop_front.new.self.items c.in-Some.doc steps c.args.heap c.refill.new.self
    (standing_by g.S.ShardScripts.rest g.S.ShardScripts.ending next) c.in-Some.ensures.items c.refill.ensures is)
    c.begin_map.ensures

pub returns-in-None : goal.returns-in-None
returns-in-None g c =
    let none : c.args.docs.now.items ≡ [] = first_of (search rules, grind arith) in
    IfOk-weaker c.begin_combine.result _ _
    (λ next is steps. combine_begins (comes_by g.S.ShardScripts.begun g.S.ShardScripts.rest g.S.ShardScripts.ending c.args.on.now.scripts.now) (ground c.args.on.now.fields.now c.args.on.now.params c.args.on.now.room) c.args.docs.now.items c.pop_front.new.self.items steps c.args.heap c.refill.new.self (standing_by g.S.ShardScripts.rest g.S.ShardScripts.ending next) none c.refill.ensures is)
    c.begin_combine.ensures
