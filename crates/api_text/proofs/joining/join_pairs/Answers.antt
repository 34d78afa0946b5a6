use Rattle.std.proofs.Common.{◌≡◌, arith, ◌+◌, ◌-◌, ◌∙◌, ap, refl, sym, subst, drop}
use Rattle.std.specs.Prelude.{map}
use Rattle.std.proofs.lemmas.List.{drop_all}
use Rattle.value_walks.proofs.Stepping.{got}
use Rattle.value_walks.specs.Outputs.{put}
use Rattle.api_text.proofs.Joined.{behind, ended, joined_told, next, stops, within}
use Rattle.api_text.specs.Joining.{Stopped, separator, element_of}
use Rattle.api_text.specs.declared.outcome.Outcome.{Outcome}
use Rattle.api_text.specs.Outcomes.{Tells}
use Rattle.api_text.specs.Writing.{told_of}
use Rattle.api_text.proofs.joining.join_pairs.Goals as goal

pub loop-at-init : goal.loop-at-init
loop-at-init c = rw (c.new-out.ensures, c.text_room.ensures) refl

pub loop-at-preserved : goal.loop-at-preserved
loop-at-preserved c =
    c.loop-at.invariant
    ∙ (ap (λ pairs. behind c.args.heap.now.objects c.args.between.now c.loop-at.at c.loop-at.out (map (element_of c.args.part) pairs)) (got c.args.pairs.now c.loop-at.at (c.in-Some.key.now, c.in-Some.value.now) c.in-Some.ensures.some)
    ∙ next c.args.heap.now.objects c.args.between.now c.loop-at.at c.loop-at.out _ (element_of c.args.part (c.in-Some.key.now, c.in-Some.value.now)) (map (element_of c.args.part) (drop (c.loop-at.at + 1) c.args.pairs.now)) _ c.in-Ok.ensures)

pub returns-in-Err : goal.returns-in-Err
returns-in-Err c =
    let whole =
    c.loop-at.invariant
    ∙ ap (λ rest. behind c.args.heap.now.objects c.args.between.now c.loop-at.at c.loop-at.out (map (element_of c.args.part) rest)) (got c.args.pairs.now c.loop-at.at (c.in-Some.key.now, c.in-Some.value.now) c.in-Some.ensures.some) in
    joined_told c.args.heap.now c.args.between.now (map (element_of c.args.part) c.args.pairs.now) c.stopped.result
    (c.stopped.ensures _
    (subst (λ told. Stopped told c.in-Err.cause) (sym whole)
    (stops c.args.heap.now.objects c.args.between.now c.loop-at.at c.loop-at.out (put c.loop-at.out (separator c.args.between.now c.loop-at.at)) c.push_shown.new.out (element_of c.args.part (c.in-Some.key.now, c.in-Some.value.now)) (map (element_of c.args.part) (drop (c.loop-at.at + 1) c.args.pairs.now)) c.in-Err.cause c.in-Err.ensures)))

pub returns : goal.returns
returns c =
    let told : within (c.args.heap.now.room - 1) c.args.heap.now.objects c.args.between.now (map (element_of c.args.part) c.args.pairs.now) ≡ told_of c.loop-at.out =
    c.loop-at.invariant
    ∙ (ap (λ rest. behind c.args.heap.now.objects c.args.between.now c.loop-at.at c.loop-at.out (map (element_of c.args.part) rest)) (drop_all c.loop-at.at c.args.pairs.now (omega (arith, c.len-at-end.ensures.value)))
    ∙ ended c.args.heap.now.objects c.args.between.now c.loop-at.at c.loop-at.out) in
    joined_told c.args.heap.now c.args.between.now (map (element_of c.args.part) c.args.pairs.now) c.output_made.result
    (subst (λ (t : Outcome). Tells c.args.heap.now t c.output_made.result) (sym told) (c.output_made.ensures c.args.heap.now))
