use Rattle.std.proofs.Common.{◌≡◌, ℕ, ◌++◌, ◌-◌, suc, length, ap, ◌∙◌, arith, append_assoc, length-append}
use Rattle.std.specs.Prelude.{Some, None}
use Rattle.api_text.specs.Pieces.{around, replaced_times}
use Rattle.api_text.proofs.Replacing.{stopped, replaced_more, replaced_none}
use Rattle.api_text.proofs.pieces.replaced_in.Goals as goal

pub returns-in_default : goal.returns-in_default
returns-in_default c =
    let none : None ≡ around c.args.target.now c.loop-left.rest.now = c.in_default.ensures in
    let left : replaced_times c.loop-left._left c.args.target.now c.args.by.now c.loop-left.rest.now ≡ c.loop-left.rest.now =
    replaced_none c.loop-left._left c.args.target.now c.args.by.now c.loop-left.rest.now none in
    let whole = c.loop-left.invariant ∙ ap (λ rest. c.loop-left.out.items ++ rest) left in
    rw whole c.finished.ensures

pub returns-in-Err : goal.returns-in-Err
returns-in-Err c =
    let some : Some (c.in-Some.before.now, c.in-Some.behind.now) ≡ around c.args.target.now c.loop-left.rest.now = c.in-Some.ensures in
    let next : c.loop-left._left ≡ suc (c.loop-left._left - 1) = omega arith in
    let more = replaced_more c.loop-left._left (c.loop-left._left - 1) c.args.target.now c.args.by.now c.loop-left.rest.now c.in-Some.before.now c.in-Some.behind.now next some in
    let whole = c.loop-left.invariant ∙ ap (λ rest. c.loop-left.out.items ++ rest) more in
    stopped c.in-Err.stop c.args.room _ _ c.in-Err.ensures.stop (omega (arith, ap length whole, length-append {A = ℕ}))

pub loop-left-preserved : goal.loop-left-preserved
loop-left-preserved c =
    let some : Some (c.in-Some.before.now, c.in-Some.behind.now) ≡ around c.args.target.now c.loop-left.rest.now = c.in-Some.ensures in
    let next : c.loop-left._left ≡ suc (c.loop-left._left - 1) = omega arith in
    let more = replaced_more c.loop-left._left (c.loop-left._left - 1) c.args.target.now c.args.by.now c.loop-left.rest.now c.in-Some.before.now c.in-Some.behind.now next some in
    let whole = c.loop-left.invariant ∙ ap (λ rest. c.loop-left.out.items ++ rest) more in
    rw c.in-Ok.ensures.ok (whole ∙ simp append_assoc)
