use Rattle.std.proofs.Common.{subst}
use Rattle.metric_ctx.specs.Scripts.{comes_by}
use Rattle.metric_ctx.specs.Shards.{ground}
use Rattle.metric_ctx.specs.Standing.{Goes, place, standing_by}
use Rattle.metric_ctx.proofs.Moving.{turn_begins, turn_goes_on, turn_more, turn_done}
use Rattle.metric_ctx.proofs.moves.take_turn.Goals as goal

pub moves-init : goal.moves-init
moves-init g c = turn_begins c.args.q (place (comes_by g.S.ShardScripts.begun g.S.ShardScripts.rest g.S.ShardScripts.ending c.args.on.now.scripts.now) (ground c.args.on.now.fields.now c.args.on.now.params c.args.on.now.room) c.args.docs.now.items c.args.steps.now (standing_by g.S.ShardScripts.rest g.S.ShardScripts.ending c.args.standing.now))

pub moves-preserved : goal.moves-preserved
moves-preserved g c =
    let before = place (comes_by g.S.ShardScripts.begun g.S.ShardScripts.rest g.S.ShardScripts.ending c.args.on.now.scripts.now) (ground c.args.on.now.fields.now c.args.on.now.params c.args.on.now.room) c.args.docs.now.items c.args.steps.now (standing_by g.S.ShardScripts.rest g.S.ShardScripts.ending c.args.standing.now) in
    let mid = place (comes_by g.S.ShardScripts.begun g.S.ShardScripts.rest g.S.ShardScripts.ending c.args.on.now.scripts.now) (ground c.args.on.now.fields.now c.args.on.now.params c.args.on.now.room) c.moves.docs.items c.moves.steps (standing_by g.S.ShardScripts.rest g.S.ShardScripts.ending c.moves.standing) in
    let after = place (comes_by g.S.ShardScripts.begun g.S.ShardScripts.rest g.S.ShardScripts.ending c.args.on.now.scripts.now) (ground c.args.on.now.fields.now c.args.on.now.params c.args.on.now.room) c.go.new.docs.items c.go.new.steps (standing_by g.S.ShardScripts.rest g.S.ShardScripts.ending c.go.new.standing) in
    turn_goes_on c.args.q c.moves.left c.in-Next.more before mid after c.moves.invariant (subst (Goes c.moves.left mid after) c.in-Next.is c.go.ensures)

pub moves-smaller : goal.moves-smaller
moves-smaller g c =
    let mid = place (comes_by g.S.ShardScripts.begun g.S.ShardScripts.rest g.S.ShardScripts.ending c.args.on.now.scripts.now) (ground c.args.on.now.fields.now c.args.on.now.params c.args.on.now.room) c.moves.docs.items c.moves.steps (standing_by g.S.ShardScripts.rest g.S.ShardScripts.ending c.moves.standing) in
    let after = place (comes_by g.S.ShardScripts.begun g.S.ShardScripts.rest g.S.ShardScripts.ending c.args.on.now.scripts.now) (ground c.args.on.now.fields.now c.args.on.now.params c.args.on.now.room) c.go.new.docs.items c.go.new.steps (standing_by g.S.ShardScripts.rest g.S.ShardScripts.ending c.go.new.standing) in
    (subst (Goes c.moves.left mid after) c.in-Next.is c.go.ensures).2

pub returns-in-More : goal.returns-in-More
returns-in-More g c =
    let mid = place (comes_by g.S.ShardScripts.begun g.S.ShardScripts.rest g.S.ShardScripts.ending c.args.on.now.scripts.now) (ground c.args.on.now.fields.now c.args.on.now.params c.args.on.now.room) c.moves.docs.items c.moves.steps (standing_by g.S.ShardScripts.rest g.S.ShardScripts.ending c.moves.standing) in
    let after = place (comes_by g.S.ShardScripts.begun g.S.ShardScripts.rest g.S.ShardScripts.ending c.args.on.now.scripts.now) (ground c.args.on.now.fields.now c.args.on.now.params c.args.on.now.room) c.go.new.docs.items c.go.new.steps (standing_by g.S.ShardScripts.rest g.S.ShardScripts.ending c.go.new.standing) in
    turn_more c.args.q c.moves.left (comes_by g.S.ShardScripts.begun g.S.ShardScripts.rest g.S.ShardScripts.ending c.args.on.now.scripts.now) (ground c.args.on.now.fields.now c.args.on.now.params c.args.on.now.room) c.args.docs.now.items c.go.new.docs.items c.args.steps.now c.go.new.steps (standing_by g.S.ShardScripts.rest g.S.ShardScripts.ending c.args.standing.now) (standing_by g.S.ShardScripts.rest g.S.ShardScripts.ending c.go.new.standing)
    mid c.moves.invariant (subst (Goes c.moves.left mid after) c.in-More.is c.go.ensures)

pub returns-in-Done : goal.returns-in-Done
returns-in-Done g c =
    let mid = place (comes_by g.S.ShardScripts.begun g.S.ShardScripts.rest g.S.ShardScripts.ending c.args.on.now.scripts.now) (ground c.args.on.now.fields.now c.args.on.now.params c.args.on.now.room) c.moves.docs.items c.moves.steps (standing_by g.S.ShardScripts.rest g.S.ShardScripts.ending c.moves.standing) in
    let after = place (comes_by g.S.ShardScripts.begun g.S.ShardScripts.rest g.S.ShardScripts.ending c.args.on.now.scripts.now) (ground c.args.on.now.fields.now c.args.on.now.params c.args.on.now.room) c.go.new.docs.items c.go.new.steps (standing_by g.S.ShardScripts.rest g.S.ShardScripts.ending c.go.new.standing) in
    turn_done c.args.q c.moves.left (comes_by g.S.ShardScripts.begun g.S.ShardScripts.rest g.S.ShardScripts.ending c.args.on.now.scripts.now) (ground c.args.on.now.fields.now c.args.on.now.params c.args.on.now.room) c.args.docs.now.items c.go.new.docs.items c.args.steps.now c.go.new.steps (standing_by g.S.ShardScripts.rest g.S.ShardScripts.ending c.args.standing.now) (standing_by g.S.ShardScripts.rest g.S.ShardScripts.ending c.go.new.standing)
    mid c.requires c.moves.invariant (subst (Goes c.moves.left mid after) c.in-Done.is c.go.ensures)
