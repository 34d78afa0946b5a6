use Rattle.std.proofs.Common.{◌≡◌, ◌+◌, ◌^◌, ◌<◌, true, false, Option, is_some, List, length, ap, sym, ◌∙◌, arith}
use Rattle.std.proofs.lemmas.Result.{IfOk-weaker}
use Rattle.object_values.specs.declared.value.Value.{Value}
use Rattle.object_values.specs.Pairs.{value_of, with_pair}
use Rattle.object_values.specs.Parts.{joined, AreCounted}
use Rattle.object_values.proofs.Joining.{end_of, value_before, value_behind, value_tail, put_before, put_behind, put_tail, counted_before, counted_behind, counted_tail}
use Rattle.object_values.proofs.parts.Parts.put.Goals as goal

pub invariant_of-self : goal.invariant_of-self
invariant_of-self c =
    let p = c.self.inside in
    let there : is_some (value_of p.before c.args.key) ≡ true = sym c.has.ensures ∙ c.if-has.true in
    end_of c.put.result c.put.new.self (with_pair p.before c.args.key c.args.value) p.before (λ (l : List (Value × Value)). AreCounted (joined l p.behind p.tail)) c.put.ensures.ok c.put.ensures.err
    (counted_before p.before p.behind p.tail c.args.key c.args.value there c.self.invariant) c.self.invariant

pub returns-then-has-clause-before : goal.returns-then-has-clause-before
returns-then-has-clause-before c =
    let p = c.self.inside in
    let there : is_some (value_of p.before c.args.key) ≡ true = sym c.has.ensures ∙ c.if-has.true in
    rw (← c.self.view_is)
    (IfOk-weaker c.put.result (λ (before : Option Value). before ≡ value_of p.before c.args.key) (λ (before : Option Value). before ≡ value_of (joined p.before p.behind p.tail) c.args.key)
    (λ before h. h ∙ sym (value_before p.before p.behind p.tail c.args.key there)) c.put.ensures.before)

pub returns-then-has-clause-ok : goal.returns-then-has-clause-ok
returns-then-has-clause-ok c =
    let p = c.self.inside in
    let there : is_some (value_of p.before c.args.key) ≡ true = sym c.has.ensures ∙ c.if-has.true in
    rw (← c.self.view_is)
    (IfOk-weaker c.put.result (λ (before : Option Value). c.put.new.self ≡ with_pair p.before c.args.key c.args.value)
    (λ (before : Option Value). joined c.put.new.self p.behind p.tail ≡ with_pair (joined p.before p.behind p.tail) c.args.key c.args.value)
    (λ before h. ap (λ (l : List (Value × Value)). joined l p.behind p.tail) h ∙ sym (put_before p.before p.behind p.tail c.args.key c.args.value there)) c.put.ensures.ok)

pub invariant_of-self-then-has-2 : goal.invariant_of-self-then-has-2
invariant_of-self-then-has-2 c =
    let p = c.self.inside in
    let none : is_some (value_of p.before c.args.key) ≡ false = sym c.has.ensures ∙ c.if-has.false in
    let there : is_some (value_of p.behind c.args.key) ≡ true = sym c.has-2.ensures ∙ c.if-has-2.true in
    end_of c.put-then-has-2.result c.put-then-has-2.new.self (with_pair p.behind c.args.key c.args.value) p.behind (λ (l : List (Value × Value)). AreCounted (joined p.before l p.tail)) c.put-then-has-2.ensures.ok c.put-then-has-2.ensures.err
    (counted_behind p.before p.behind p.tail c.args.key c.args.value none there c.self.invariant) c.self.invariant

pub returns-then-has-2-clause-before : goal.returns-then-has-2-clause-before
returns-then-has-2-clause-before c =
    let p = c.self.inside in
    let none : is_some (value_of p.before c.args.key) ≡ false = sym c.has.ensures ∙ c.if-has.false in
    let there : is_some (value_of p.behind c.args.key) ≡ true = sym c.has-2.ensures ∙ c.if-has-2.true in
    rw (← c.self.view_is)
    (IfOk-weaker c.put-then-has-2.result (λ (before : Option Value). before ≡ value_of p.behind c.args.key) (λ (before : Option Value). before ≡ value_of (joined p.before p.behind p.tail) c.args.key)
    (λ before h. h ∙ sym (value_behind p.before p.behind p.tail c.args.key c.self.invariant.distinct none there)) c.put-then-has-2.ensures.before)

pub returns-then-has-2-clause-ok : goal.returns-then-has-2-clause-ok
returns-then-has-2-clause-ok c =
    let p = c.self.inside in
    let none : is_some (value_of p.before c.args.key) ≡ false = sym c.has.ensures ∙ c.if-has.false in
    let there : is_some (value_of p.behind c.args.key) ≡ true = sym c.has-2.ensures ∙ c.if-has-2.true in
    rw (← c.self.view_is)
    (IfOk-weaker c.put-then-has-2.result (λ (before : Option Value). c.put-then-has-2.new.self ≡ with_pair p.behind c.args.key c.args.value)
    (λ (before : Option Value). joined p.before c.put-then-has-2.new.self p.tail ≡ with_pair (joined p.before p.behind p.tail) c.args.key c.args.value)
    (λ before h. ap (λ (l : List (Value × Value)). joined p.before l p.tail) h ∙ sym (put_behind p.before p.behind p.tail c.args.key c.args.value c.self.invariant.distinct none there)) c.put-then-has-2.ensures.ok)

pub invariant_of-self-2 : goal.invariant_of-self-2
invariant_of-self-2 c =
    let p = c.self.inside in
    let same : length (joined p.before p.behind p.tail) ≡ length c.args.self.now = ap length c.self.view_is in
    let few : length (joined p.before p.behind p.tail) + 1 < 2 ^ 63 = omega arith in
    let none : is_some (value_of p.before c.args.key) ≡ false = sym c.has.ensures ∙ c.if-has.false in
    let gone : is_some (value_of p.behind c.args.key) ≡ false = sym c.has-2.ensures ∙ c.if-has-2.false in
    end_of c.put-2.result c.put-2.new.self (with_pair p.tail c.args.key c.args.value) p.tail (λ (l : List (Value × Value)). AreCounted (joined p.before p.behind l)) c.put-2.ensures.ok c.put-2.ensures.err
    (counted_tail p.before p.behind p.tail c.args.key c.args.value none gone few c.self.invariant) c.self.invariant

pub returns-clause-before : goal.returns-clause-before
returns-clause-before c =
    let p = c.self.inside in
    let none : is_some (value_of p.before c.args.key) ≡ false = sym c.has.ensures ∙ c.if-has.false in
    let gone : is_some (value_of p.behind c.args.key) ≡ false = sym c.has-2.ensures ∙ c.if-has-2.false in
    rw (← c.self.view_is)
    (IfOk-weaker c.put-2.result (λ (before : Option Value). before ≡ value_of p.tail c.args.key) (λ (before : Option Value). before ≡ value_of (joined p.before p.behind p.tail) c.args.key)
    (λ before h. h ∙ sym (value_tail p.before p.behind p.tail c.args.key c.self.invariant.distinct none gone)) c.put-2.ensures.before)

pub returns-clause-ok : goal.returns-clause-ok
returns-clause-ok c =
    let p = c.self.inside in
    let none : is_some (value_of p.before c.args.key) ≡ false = sym c.has.ensures ∙ c.if-has.false in
    let gone : is_some (value_of p.behind c.args.key) ≡ false = sym c.has-2.ensures ∙ c.if-has-2.false in
    rw (← c.self.view_is)
    (IfOk-weaker c.put-2.result (λ (before : Option Value). c.put-2.new.self ≡ with_pair p.tail c.args.key c.args.value)
    (λ (before : Option Value). joined p.before p.behind c.put-2.new.self ≡ with_pair (joined p.before p.behind p.tail) c.args.key c.args.value)
    (λ before h. ap (λ (l : List (Value × Value)). joined p.before p.behind l) h ∙ sym (put_tail p.before p.behind p.tail c.args.key c.args.value c.self.invariant.distinct none gone)) c.put-2.ensures.ok)
