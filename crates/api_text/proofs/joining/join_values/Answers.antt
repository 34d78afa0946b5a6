use Rattle.std.proofs.Common.{◌≡◌, ◌+◌, ◌-◌, ◌∙◌, ap, refl, sym, subst, drop}
use Rattle.std.specs.Prelude.{map}
use Rattle.value_walks.specs.Texts.{AValue}
use Rattle.std.proofs.lemmas.List.{drop_all}
use Rattle.value_walks.proofs.Stepping.{got}
use Rattle.value_walks.specs.Outputs.{put}
use Rattle.api_text.proofs.Joined.{behind, ended, joined_told, next, stops, within}
use Rattle.api_text.specs.Joining.{Stopped, separator}
use Rattle.api_text.specs.declared.outcome.Outcome.{Outcome}
use Rattle.api_text.specs.Outcomes.{Tells}
use Rattle.api_text.specs.Writing.{told_of}
use Rattle.api_text.proofs.joining.join_values.Goals as goal

pub loop-at-init : goal.loop-at-init
loop-at-init c = rw (c.new-out.ensures, c.text_room.ensures) refl

pub loop-at-preserved : goal.loop-at-preserved
loop-at-preserved c =
    c.loop-at.invariant
    ∙ (ap (λ values. behind c.args.heap.now.objects c.args.between.now c.loop-at.at c.loop-at.out (map AValue values)) (got c.args.values.now c.loop-at.at c.in-Some.value.now (sym c.in-Some.ensures))
    ∙ next c.args.heap.now.objects c.args.between.now c.loop-at.at c.loop-at.out _ (AValue c.in-Some.value.now) (map AValue (drop (c.loop-at.at + 1) c.args.values.now)) _ c.in-Ok.ensures)

pub returns-in-Err : goal.returns-in-Err
returns-in-Err c =
    let whole =
    c.loop-at.invariant
    ∙ ap (λ rest. behind c.args.heap.now.objects c.args.between.now c.loop-at.at c.loop-at.out (map AValue rest)) (got c.args.values.now c.loop-at.at c.in-Some.value.now (sym c.in-Some.ensures)) in
    joined_told c.args.heap.now c.args.between.now (map AValue c.args.values.now) c.stopped.result
    (c.stopped.ensures _
    (subst (λ told. Stopped told c.in-Err.cause) (sym whole)
    (stops c.args.heap.now.objects c.args.between.now c.loop-at.at c.loop-at.out (put c.loop-at.out (separator c.args.between.now c.loop-at.at)) c.push_value.new.out (AValue c.in-Some.value.now) (map AValue (drop (c.loop-at.at + 1) c.args.values.now)) c.in-Err.cause c.in-Err.ensures)))

pub returns : goal.returns
returns c =
    let told : within (c.args.heap.now.room - 1) c.args.heap.now.objects c.args.between.now (map AValue c.args.values.now) ≡ told_of c.loop-at.out =
    c.loop-at.invariant
    ∙ (ap (λ rest. behind c.args.heap.now.objects c.args.between.now c.loop-at.at c.loop-at.out (map AValue rest)) (drop_all c.loop-at.at c.args.values.now (c.loop-at-test.false))
    ∙ ended c.args.heap.now.objects c.args.between.now c.loop-at.at c.loop-at.out) in
    joined_told c.args.heap.now c.args.between.now (map AValue c.args.values.now) c.output_made.result
    (subst (λ (t : Outcome). Tells c.args.heap.now t c.output_made.result) (sym told) (c.output_made.ensures c.args.heap.now))
