use Rattle.std.proofs.Common.{◌≡◌, ◌-◌, ◌∷◌, [], suc, subst, arith}
use Rattle.std.specs.Prelude.{Some, None}
use Rattle.api_text.specs.Pieces.{around, cut}
use Rattle.api_text.proofs.Cutting.{Making, all_made, cut_more, cut_none, none_made, one_more}
use Rattle.api_text.proofs.pieces.cut.Goals as goal

pub last_piece-requires : goal.last_piece-requires
last_piece-requires c = omega (arith, c.loop-left.invariant.spares)

pub returns-in_default : goal.returns-in_default
returns-in_default c =
    let none : None ≡ around c.args.token.now c.loop-left.rest.now = c.in_default.ensures in
    let last : cut c.loop-left._left c.args.token.now c.loop-left.rest.now ≡ c.loop-left.rest.now ∷ [] = cut_none c.loop-left._left c.args.token.now c.loop-left.rest.now none in
    all_made c.args.room (cut c.args.times c.args.token.now c.args.text.now) c.loop-left.rest.now c.loop-left.items.items c.loop-left.cost c.loop-left.spare c.last_piece.result
    (subst (λ rest. Making c.args.room (cut c.args.times c.args.token.now c.args.text.now) rest c.loop-left.items.items c.loop-left.cost c.loop-left.spare) last c.loop-left.invariant)
    c.last_piece.ensures.items c.last_piece.ensures.cost c.last_piece.ensures.stop

pub returns-in-Err : goal.returns-in-Err
returns-in-Err c =
    let some : Some (c.in-Some.before.now, c.in-Some.behind.now) ≡ around c.args.token.now c.loop-left.rest.now = c.in-Some.ensures in
    let next : c.loop-left._left ≡ suc (c.loop-left._left - 1) = omega arith in
    let more = cut_more c.loop-left._left (c.loop-left._left - 1) c.args.token.now c.loop-left.rest.now c.in-Some.before.now c.in-Some.behind.now next some in
    none_made c.args.room (cut c.args.times c.args.token.now c.args.text.now) (cut (c.loop-left._left - 1) c.args.token.now c.in-Some.behind.now) c.in-Some.before.now c.loop-left.items.items c.loop-left.cost c.loop-left.spare c.in-Err.stop
    (subst (λ rest. Making c.args.room (cut c.args.times c.args.token.now c.args.text.now) rest c.loop-left.items.items c.loop-left.cost c.loop-left.spare) more c.loop-left.invariant)
    c.in-Err.ensures.stop

pub loop-left-preserved : goal.loop-left-preserved
loop-left-preserved c =
    let some : Some (c.in-Some.before.now, c.in-Some.behind.now) ≡ around c.args.token.now c.loop-left.rest.now = c.in-Some.ensures in
    let next : c.loop-left._left ≡ suc (c.loop-left._left - 1) = omega arith in
    let more = cut_more c.loop-left._left (c.loop-left._left - 1) c.args.token.now c.loop-left.rest.now c.in-Some.before.now c.in-Some.behind.now next some in
    one_more c.args.room (cut c.args.times c.args.token.now c.args.text.now) (cut (c.loop-left._left - 1) c.args.token.now c.in-Some.behind.now) c.in-Some.before.now c.loop-left.items.items _ c.loop-left.cost _ c.loop-left.spare _
    (subst (λ rest. Making c.args.room (cut c.args.times c.args.token.now c.args.text.now) rest c.loop-left.items.items c.loop-left.cost c.loop-left.spare) more c.loop-left.invariant)
    c.in-Ok.ensures.items c.in-Ok.ensures.cost c.in-Ok.ensures.spare

pub returns : goal.returns
returns c =
    let done : c.loop-left._left ≡ 0 = omega arith in
    all_made c.args.room (cut c.args.times c.args.token.now c.args.text.now) c.loop-left.rest.now c.loop-left.items.items c.loop-left.cost c.loop-left.spare c.last_piece-2.result
    (subst (λ left. Making c.args.room (cut c.args.times c.args.token.now c.args.text.now) (cut left c.args.token.now c.loop-left.rest.now) c.loop-left.items.items c.loop-left.cost c.loop-left.spare) done c.loop-left.invariant)
    c.last_piece-2.ensures.items c.last_piece-2.ensures.cost c.last_piece-2.ensures.stop
