use Rattle.std.proofs.Common.{◌≡◌, sym, subst, length, arith}
use Rattle.pl_lexer.specs.Longest.{Shows}
use Rattle.pl_lexer.specs.Tables.{sign_of}
use Rattle.pl_lexer.proofs.Listed.{NoSignAbove, none_above_four, sign_shown, no_sign}
use Rattle.pl_lexer.proofs.signs.sign_found.Goals as goal

pub loop-size-init : goal.loop-size-init
loop-size-init c = subst (NoSignAbove c.args.text.now) (sym c.min-size.ensures) (none_above_four c.args.text.now)

pub returns-in_default : goal.returns-in_default
returns-in_default c = sign_shown c.args.text.now c.loop-size.size c.shown.result c.loop-size.invariant (subst (λ b. Shows (sign_of b) (length b) c.shown.result) c.split_at.ensures.front c.shown.ensures) c.in_default.not-Nothing

pub returns : goal.returns
returns c =
    let none : c.loop-size.size ≡ 0 = omega (arith, c.loop-size-test.false) in
    no_sign c.args.text.now (subst (NoSignAbove c.args.text.now) none c.loop-size.invariant)
