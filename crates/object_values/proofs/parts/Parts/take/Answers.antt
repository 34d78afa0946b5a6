use Rattle.std.proofs.Common.{◌≡◌, ℕ, ◌+◌, ◌-◌, ◌<◌, ◌≤◌, suc, List, length, ap, sym, ◌∙◌, subst, arith}
use Rattle.object_values.specs.declared.value.Value.{Value}
use Rattle.object_values.specs.Parts.{joined, AreCounted}
use Rattle.object_values.proofs.Parting.{counted_removed}
use Rattle.object_values.proofs.Joining.{got_before, got_behind, got_tail, removed_before, removed_behind, removed_tail}
use Rattle.object_values.proofs.parts.Parts.take.Goals as goal

pub invariant_of-self : goal.invariant_of-self
invariant_of-self c =
    let p = c.self.inside in
    let below : c.args.at < length p.before = omega arith in
    subst AreCounted (removed_before p.before p.behind p.tail c.args.at below ∙ ap (λ (l : List (Value × Value)). joined l p.behind p.tail) (sym c.remove.ensures.rest))
    (counted_removed (joined p.before p.behind p.tail) c.args.at c.self.invariant)

pub returns-then-at-before-clause-pair : goal.returns-then-at-before-clause-pair
returns-then-at-before-clause-pair c =
    let p = c.self.inside in
    let below : c.args.at < length p.before = omega arith in
    rw (← c.self.view_is) (c.remove.ensures.pair ∙ sym (got_before p.before p.behind p.tail c.args.at below))

pub invariant_of-self-then-at-before-2 : goal.invariant_of-self-then-at-before-2
invariant_of-self-then-at-before-2 c =
    let p = c.self.inside in
    let back : ℕ = c.len-behind.result - 1 - (c.args.at - c.len-before.result) in
    let above : length p.before ≤ c.args.at = omega arith in
    let place : (c.args.at - length p.before) + suc back ≡ length p.behind = omega arith in
    subst AreCounted (removed_behind p.before p.behind p.tail c.args.at back above place ∙ ap (λ (l : List (Value × Value)). joined p.before l p.tail) (sym c.remove-then-at-before-2.ensures.rest))
    (counted_removed (joined p.before p.behind p.tail) c.args.at c.self.invariant)

pub returns-then-at-before-2-clause-pair : goal.returns-then-at-before-2-clause-pair
returns-then-at-before-2-clause-pair c =
    let p = c.self.inside in
    let back : ℕ = c.len-behind.result - 1 - (c.args.at - c.len-before.result) in
    let above : length p.before ≤ c.args.at = omega arith in
    let place : (c.args.at - length p.before) + suc back ≡ length p.behind = omega arith in
    rw (← c.self.view_is) (c.remove-then-at-before-2.ensures.pair ∙ sym (got_behind p.before p.behind p.tail c.args.at back above place))

pub returns-then-at-before-2-clause-rest : goal.returns-then-at-before-2-clause-rest
returns-then-at-before-2-clause-rest c =
    let p = c.self.inside in
    let back : ℕ = c.len-behind.result - 1 - (c.args.at - c.len-before.result) in
    let above : length p.before ≤ c.args.at = omega arith in
    let place : (c.args.at - length p.before) + suc back ≡ length p.behind = omega arith in
    rw (← c.self.view_is)
    (ap (λ (l : List (Value × Value)). joined p.before l p.tail) c.remove-then-at-before-2.ensures.rest ∙ sym (removed_behind p.before p.behind p.tail c.args.at back above place))

pub invariant_of-self-2 : goal.invariant_of-self-2
invariant_of-self-2 c =
    let p = c.self.inside in
    let place : ℕ = c.args.at - c.len-before.result - c.len-behind.result in
    let here : c.args.at ≡ length p.before + length p.behind + place = omega arith in
    subst AreCounted (removed_tail p.before p.behind p.tail c.args.at place here ∙ ap (λ (l : List (Value × Value)). joined p.before p.behind l) (sym c.remove-2.ensures.rest))
    (counted_removed (joined p.before p.behind p.tail) c.args.at c.self.invariant)

pub returns-clause-pair : goal.returns-clause-pair
returns-clause-pair c =
    let p = c.self.inside in
    let place : ℕ = c.args.at - c.len-before.result - c.len-behind.result in
    let here : c.args.at ≡ length p.before + length p.behind + place = omega arith in
    rw (← c.self.view_is) (c.remove-2.ensures.pair ∙ sym (got_tail p.before p.behind p.tail c.args.at place here))

pub returns-clause-rest : goal.returns-clause-rest
returns-clause-rest c =
    let p = c.self.inside in
    let place : ℕ = c.args.at - c.len-before.result - c.len-behind.result in
    let here : c.args.at ≡ length p.before + length p.behind + place = omega arith in
    rw (← c.self.view_is) (ap (λ (l : List (Value × Value)). joined p.before p.behind l) c.remove-2.ensures.rest ∙ sym (removed_tail p.before p.behind p.tail c.args.at place here))
