use Rattle.std.proofs.Common.{◌≡◌, suc, ◌+◌, ◌∙◌, List, ◌∷◌, sym, ap, add-one, drop, arith}
use Rattle.std.proofs.Math.Seq.{drop-cons}
use Rattle.pl_tree.specs.declared.tree.Function.{Function}
use Rattle.typed_tree.specs.declared.program.TypedFunction.{TypedFunction}
use Rattle.typing_rules.specs.declared.header.Header.{Header}
use Rattle.typing_rules.specs.Typing.{functions}
use Rattle.static_types.proofs.Functions.{behind, behind_more}
use Rattle.static_types.proofs.program.functions.Goals as goal

pub loop-f-preserved : goal.loop-f-preserved
loop-f-preserved c =
    let allow = c.args.allow.now in
    let hs = c.args.headers.now in
    let fs = c.args.functions.now in
    let i = c.loop-f.f-index in
    let f = c.f-item.result in
    let done = c.loop-f.done in
    let rest = c.in-Some.rest.now in
    let item : drop i fs ≡ f ∷ drop (i + 1) fs =
    drop-cons fs i f (omega (arith, c.loop-f-test.true)) ∙ (ap (λ (g : Function). g ∷ drop (suc i) fs) (sym c.f-item.is) ∙ ap (λ n. f ∷ drop n fs) (sym (add-one i))) in
    c.loop-f.invariant
    ∙ (ap (λ (l : List Function). behind done (functions allow hs l c.loop-f.left.now)) item
    ∙ (ap (λ (l : List Header). behind done (functions allow hs (f ∷ drop (i + 1) fs) l)) c.in-Some.ensures.cases.0
    ∙ (behind_more done allow hs f (drop (i + 1) fs) c.in-Some.header.now rest c.in_ok-x.x c.in_ok-x.ensures
    ∙ ap (λ (d : List TypedFunction). behind d (functions allow hs (drop (i + 1) fs) rest)) (sym c.in_ok-push.ensures.ok))))
