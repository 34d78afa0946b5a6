use Rattle.std.proofs.Common.{ap, ◌∙◌, subst}
use Rattle.function_calls.specs.declared.aim.Aim.{Aim}
use Rattle.function_calls.specs.Applying.{aimed, stage}
use Rattle.function_calls.specs.Coming.{StagesAs, none_taken}
use Rattle.function_calls.specs.Targets.{aim_of}
use Rattle.function_calls.proofs.stage.stage.Goals as goal

pub returns-in-Ok : goal.returns-in-Ok
unfolding stage
returns-in-Ok c =
    let texts = c.args.texts.now in
    let allow = c.args.allow.now in
    let heap = c.args.heap.now in
    subst (λ (a : Aim). StagesAs texts allow heap (aimed texts allow c.args.first.now heap c.args.values.now a) c.stage_at.new.heap c.stage_at.new.values c.stage_at.result)
    (c.in-Ok.ensures.exact ∙ ap (aim_of texts allow heap.objects) c.as_slice.ensures) c.stage_at.ensures

pub returns-in-Err : goal.returns-in-Err
returns-in-Err c = none_taken
