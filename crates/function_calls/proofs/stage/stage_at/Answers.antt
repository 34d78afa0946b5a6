use Rattle.function_calls.specs.Applying.{refusal}
use Rattle.function_calls.proofs.Staging.{aimed_on, refused_stage}
use Rattle.function_calls.proofs.stage.stage_at.Goals as goal

pub returns-in-Some : goal.returns-in-Some
returns-in-Some c =
    refused_stage c.args.texts.now c.args.allow.now c.args.first.now c.args.heap.now c.refuse.new.heap c.args.values.now c.args.values.now c.args.aim (refusal c.args.heap.now c.args.aim) c.in-Some.answer
    c.in-Some.ensures

pub returns-in-None : goal.returns-in-None
returns-in-None c =
    aimed_on c.args.texts.now c.args.allow.now c.args.first.now c.args.heap.now c.refuse.new.heap c.stage_passed.new.heap c.args.values.now c.stage_passed.new.values c.args.aim
    (refusal c.args.heap.now c.args.aim) c.stage_passed.result c.in-None.ensures c.stage_passed.ensures
