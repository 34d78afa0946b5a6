use Rattle.std.proofs.Common.{◌≡◌, ℕ, ◌+◌, suc, false, None, is_some, List, ◌++◌, drop, reverse, sym, ◌∙◌, subst, arith}
use Rattle.object_values.specs.declared.value.Value.{Value}
use Rattle.object_values.specs.Pairs.{value_of, AreNew}
use Rattle.object_values.proofs.Parting.{found_right, absent_reversed, none_is, next_new}
use Rattle.object_values.proofs.parts.are_new.Goals as goal

pub loop-at-preserved : goal.loop-at-preserved
loop-at-preserved c =
    let before : List (Value × Value) = c.args.before.now in
    let behind : List (Value × Value) = c.args.behind.now in
    let key : Value = c.in-Some.key.now in
    let none : is_some (value_of before key) ≡ false = sym c.has.ensures ∙ c.if-has.false in
    let gone : is_some (value_of behind key) ≡ false = sym c.has-else-has.ensures ∙ c.if-has-2.false in
    let absent : value_of (before ++ reverse behind) key ≡ None =
    found_right before (reverse behind) key none ∙ absent_reversed behind key (none_is (value_of behind key) gone) in
    let on : c.loop-at.at + 1 ≡ suc c.loop-at.at = omega arith in
    λ rest. c.loop-at.invariant
    (next_new (before ++ reverse behind) c.args.more.now c.loop-at.at key (sym c.in-Some.ensures) absent
    (subst (λ (n : ℕ). AreNew (before ++ reverse behind) (drop n c.args.more.now)) on rest))
