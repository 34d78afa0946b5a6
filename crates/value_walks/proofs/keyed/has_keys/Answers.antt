use Rattle.std.proofs.Common.{◌≡◌, sym, ◌∙◌, true, false, is_some, arith}
use Rattle.std.proofs.lemmas.Bool.Decides.{nat_tests}
use Rattle.object_values.specs.Pairs.{value_of}
use Rattle.value_walks.proofs.Stepping.{key_step, absent, present}
use Rattle.value_walks.proofs.keyed.has_keys.Goals as goal

pub returns-then-not-has_key : goal.returns-then-not-has_key
returns-then-not-has_key c =
    let gone : is_some (value_of c.args.other.now c.in-Some.key.now) ≡ false = grind (arith, nat_tests) in
    sym (c.loop-at.invariant ∙ (key_step c.args.pairs.now c.args.other.now c.loop-at.at (c.in-Some.key.now, c.in-Some.field-0-1.now) c.in-Some.ensures.some ∙ absent _ _ gone))

pub loop-at-preserved : goal.loop-at-preserved
loop-at-preserved c =
    let there : is_some (value_of c.args.other.now c.in-Some.key.now) ≡ true = grind (arith, nat_tests) in
    c.loop-at.invariant ∙ (key_step c.args.pairs.now c.args.other.now c.loop-at.at (c.in-Some.key.now, c.in-Some.field-0-1.now) c.in-Some.ensures.some ∙ present _ _ there)
