use Rattle.std.proofs.Common.{◌≡◌, ◌+◌, false, sym, ◌∙◌}
use Rattle.std.proofs.lemmas.List.{take_rest}
use Rattle.pl_nesting.specs.Nesting as spec
use Rattle.pl_nesting.proofs.Deep.{step, counted_small, left_small, not_deep}
use Rattle.pl_nesting.proofs.nesting.nesting_fault.Goals as goal

pub is_deep-requires : goal.is_deep-requires
is_deep-requires c = rw c.count.ensures (counted_small _ c.loop-at.levels c.loop-at.invariant.small)

pub loop-at-preserved : goal.loop-at-preserved
loop-at-preserved c =
    let shallow : spec.is_deep _ c.count.new.self ≡ false = sym c.is_deep.ensures ∙ c.if-is_deep.false in
    record {
      same = c.loop-at.invariant.same ∙ step c.loop-at.levels c.count.new.self c.leave.new.self c.args.tokens.now _ c.loop-at.at _ c.loop-at-test.true c.count.ensures shallow (take_rest c.args.tokens.now (c.loop-at.at + 1)) c.in_ok-leave.ensures;
      small = rw c.in_ok-leave.ensures (left_small _ _ c.count.new.self (not_deep _ c.count.new.self shallow));
    }
