use Rattle.std.proofs.Common.{Option, refl, subst, sym, ◌∙◌}
use Rattle.object_heap.specs.declared.outcome.Outcome.{Outcome}
use Rattle.metric_ctx.specs.Scripts.{Advances, Came, comes_by}
use Rattle.metric_ctx.specs.Shards.{behind_phase, ground}
use Rattle.metric_ctx.specs.Standing.{Reaches, place, runs_behind, standing_by}
use Rattle.metric_ctx.proofs.Moving.{more_goes, over_goes, run_goes}
use Rattle.metric_ctx.proofs.moves.go_in.Goals as goal

pub returns-in-More : goal.returns-in-More
returns-in-More g c =
    let turned = subst (Advances g.S.ShardScripts.rest g.S.ShardScripts.ending c.args.q c.args.run c.advance.new.run) c.in-More.is c.advance.ensures in
    more_goes (comes_by g.S.ShardScripts.begun g.S.ShardScripts.rest g.S.ShardScripts.ending c.args.on.now.scripts.now) (ground c.args.on.now.fields.now c.args.on.now.params c.args.on.now.room) c.args.docs.now.items c.args.steps.now c.args.q c.args.phase
    (record { count = g.S.ShardScripts.rest c.args.run; left = g.S.ShardScripts.ending c.args.run }) (record { count = g.S.ShardScripts.rest c.advance.new.run; left = g.S.ShardScripts.ending c.advance.new.run })
    _ turned.0.lowered turned.0.kept turned.1 refl

pub end_run-requires : goal.end_run-requires
end_run-requires g c = (subst (Advances g.S.ShardScripts.rest g.S.ShardScripts.ending c.args.q c.args.run c.advance.new.run) c.in-Done.is c.advance.ensures).1

pub returns-then-has_ended : goal.returns-then-has_ended
returns-then-has_ended g c =
    let turned = subst (Advances g.S.ShardScripts.rest g.S.ShardScripts.ending c.args.q c.args.run c.advance.new.run) c.in-Done.is c.advance.ensures in
    let old : Came = (record { count = g.S.ShardScripts.rest c.args.run; left = g.S.ShardScripts.ending c.args.run }) in
    over_goes c.args.q c.in-Done.taken (comes_by g.S.ShardScripts.begun g.S.ShardScripts.rest g.S.ShardScripts.ending c.args.on.now.scripts.now) (ground c.args.on.now.fields.now c.args.on.now.params c.args.on.now.room) c.args.docs.now.items c.end_run.new.docs.items c.args.steps.now c.end_run.new.steps c.args.phase old (standing_by g.S.ShardScripts.rest g.S.ShardScripts.ending c.in-Ok.next) c.has_ended.result
    (sym turned.0.lowered ∙ turned.1) turned.2 (c.has_ended.ensures g.S.ShardScripts.rest g.S.ShardScripts.ending) c.if-has_ended.true
    (subst (λ (left : Option Outcome). Reaches (place (comes_by g.S.ShardScripts.begun g.S.ShardScripts.rest g.S.ShardScripts.ending c.args.on.now.scripts.now) (ground c.args.on.now.fields.now c.args.on.now.params c.args.on.now.room) c.end_run.new.docs.items c.end_run.new.steps (standing_by g.S.ShardScripts.rest g.S.ShardScripts.ending c.in-Ok.next)) (behind_phase (comes_by g.S.ShardScripts.begun g.S.ShardScripts.rest g.S.ShardScripts.ending c.args.on.now.scripts.now) (ground c.args.on.now.fields.now c.args.on.now.params c.args.on.now.room) c.args.docs.now.items c.args.steps.now c.args.phase left) (runs_behind c.args.docs.now.items c.args.phase))
    turned.0.kept c.in-Ok.ensures)

pub returns-else-has_ended : goal.returns-else-has_ended
returns-else-has_ended g c =
    let turned = subst (Advances g.S.ShardScripts.rest g.S.ShardScripts.ending c.args.q c.args.run c.advance.new.run) c.in-Done.is c.advance.ensures in
    let old : Came = (record { count = g.S.ShardScripts.rest c.args.run; left = g.S.ShardScripts.ending c.args.run }) in
    run_goes c.args.q c.in-Done.taken (comes_by g.S.ShardScripts.begun g.S.ShardScripts.rest g.S.ShardScripts.ending c.args.on.now.scripts.now) (ground c.args.on.now.fields.now c.args.on.now.params c.args.on.now.room) c.args.docs.now.items c.end_run.new.docs.items c.args.steps.now c.end_run.new.steps c.args.phase old (standing_by g.S.ShardScripts.rest g.S.ShardScripts.ending c.in-Ok.next)
    (sym turned.0.lowered ∙ turned.1) turned.2
    (subst (λ (left : Option Outcome). Reaches (place (comes_by g.S.ShardScripts.begun g.S.ShardScripts.rest g.S.ShardScripts.ending c.args.on.now.scripts.now) (ground c.args.on.now.fields.now c.args.on.now.params c.args.on.now.room) c.end_run.new.docs.items c.end_run.new.steps (standing_by g.S.ShardScripts.rest g.S.ShardScripts.ending c.in-Ok.next)) (behind_phase (comes_by g.S.ShardScripts.begun g.S.ShardScripts.rest g.S.ShardScripts.ending c.args.on.now.scripts.now) (ground c.args.on.now.fields.now c.args.on.now.params c.args.on.now.room) c.args.docs.now.items c.args.steps.now c.args.phase left) (runs_behind c.args.docs.now.items c.args.phase))
    turned.0.kept c.in-Ok.ensures)
