use Rattle.std.proofs.Common.{◌≡◌, ◌+◌, ◌^◌, ◌<◌, List, ◌++◌, length, reverse, ap, sym, ◌∙◌, arith}
use Rattle.std.proofs.lemmas.Result.{IfOk-weaker}
use Rattle.object_values.specs.declared.value.Value.{Value}
use Rattle.object_values.specs.Pairs.{with_pairs, AreNew}
use Rattle.object_values.specs.Parts.{joined, AreCounted}
use Rattle.object_values.proofs.Joining.{end_of, put_new, counted_more}
use Rattle.object_values.proofs.parts.Parts.append.Goals as goal

pub invariant_of-self : goal.invariant_of-self
invariant_of-self c =
    let p = c.self.inside in
    let new : AreNew (p.before ++ reverse p.behind) c.args.more = c.are_new.ensures c.if-are_new.true in
    let same : length (joined p.before p.behind p.tail) ≡ length c.args.self.now = ap length c.self.view_is in
    let few : length (joined p.before p.behind p.tail) + length c.args.more < 2 ^ 63 = omega arith in
    end_of c.append.result c.append.new.self (with_pairs p.tail c.args.more) p.tail (λ (l : List (Value × Value)). AreCounted (joined p.before p.behind l)) c.append.ensures.ok c.append.ensures.err
    (counted_more p.before p.behind p.tail c.args.more new few c.self.invariant) c.self.invariant

pub returns-then-are_new-clause-ok : goal.returns-then-are_new-clause-ok
returns-then-are_new-clause-ok c =
    let p = c.self.inside in
    let new : AreNew (p.before ++ reverse p.behind) c.args.more = c.are_new.ensures c.if-are_new.true in
    rw (← c.self.view_is)
    (IfOk-weaker c.append.result (λ (done : Unit {0}). c.append.new.self ≡ with_pairs p.tail c.args.more)
    (λ (done : Unit {0}). joined p.before p.behind c.append.new.self ≡ with_pairs (joined p.before p.behind p.tail) c.args.more)
    (λ done h. ap (λ (l : List (Value × Value)). joined p.before p.behind l) h ∙ sym (put_new p.before p.behind p.tail c.args.more new)) c.append.ensures.ok)
