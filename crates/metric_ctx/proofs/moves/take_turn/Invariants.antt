use Rattle.metric_ctx.specs.Scripts.{comes_by}
use Rattle.metric_ctx.specs.Shards.{ground}
use Rattle.metric_ctx.specs.Standing.{place, runs_left, standing_by}
use Rattle.metric_ctx.proofs.Moving.{InTurn}
use Rattle.metric_ctx.proofs.moves.take_turn.Given as goal

-- the moves so far have led from where the turn began to here
abbrev pub invariant-moves : goal.invariant-moves
invariant-moves g l = InTurn l.q l.left
    (place (comes_by g.S.ShardScripts.begun g.S.ShardScripts.rest g.S.ShardScripts.ending l.on.scripts.now) (ground l.on.fields.now l.on.params l.on.room) l.initial.docs.items l.initial.steps (standing_by g.S.ShardScripts.rest g.S.ShardScripts.ending l.initial.standing))
    (place (comes_by g.S.ShardScripts.begun g.S.ShardScripts.rest g.S.ShardScripts.ending l.on.scripts.now) (ground l.on.fields.now l.on.params l.on.room) l.docs.items l.steps (standing_by g.S.ShardScripts.rest g.S.ShardScripts.ending l.standing))

-- each move ends a run
abbrev pub decreases-moves : goal.decreases-moves
decreases-moves g l = runs_left l.docs.items (standing_by g.S.ShardScripts.rest g.S.ShardScripts.ending l.standing)
