use Rattle.std.proofs.Common.{rules, ◌≡◌, ◌∷◌, ◌++◌, [], length, sym, ap, subst, ◌∙◌, append-nil, arith}
use Rattle.std.specs.Vec.Iter.{into_iter_items}
use Rattle.update_store.specs.Updates.{numbered}
use Rattle.update_store.proofs.RunLemmas.{nothing_left, numbers_more}
use Rattle.update_store.proofs.running.tasks_of.Goals as goal

pub loop-client-init : goal.loop-client-init
loop-client-init c =
    let gives = c.into_iter-client-iterator.ensures.into_iter_gives in (
      rw c.in_ok-tasks.ensures.items (ap (λ l. numbered 0 l) gives.0),
      search rules,
      omega (arith, c.requires, ap length gives.0),
    )

pub overflow_add-number : goal.overflow_add-number
overflow_add-number c =
    let at = c.loop-client in
    let steps : into_iter_items at.client-iterator ≡ c.in-Some.client ∷ into_iter_items c.next.new.self = c.in-Some.ensures.steps.0 in
    let short = ap length steps in
    omega (arith, at.invariant.2, short)

pub loop-client-preserved : goal.loop-client-preserved
loop-client-preserved c =
    let at = c.loop-client in
    let client = c.in-Some.client in
    let steps : into_iter_items at.client-iterator ≡ client ∷ into_iter_items c.next.new.self = c.in-Some.ensures.steps.0 in
    let short = ap length steps in
    let so = subst (λ l. c.loop-client.tasks.items ++ numbered at.number l ≡ numbered 0 c.args.clients.items) steps at.invariant.0 in (
      numbers_more at.tasks.items c.push.new.self.items at.number client (into_iter_items c.next.new.self) c.args.clients.items so (c.in_ok-push.ensures.items ∙ ap (λ t. at.tasks.items ++ t ∷ []) c.new.ensures),
      let gone = c.in-Some.ensures.steps.1 in omega (arith, at.invariant.1, gone, short),
      omega (arith, at.invariant.2, short),
    )

pub returns : goal.returns
returns c =
    let at = c.loop-client in
    let none = c.in-None.ensures.steps in
    let empty : into_iter_items at.client-iterator ≡ [] = nothing_left _ (sym at.invariant.1 ∙ none.0) in
    sym (append-nil at.tasks.items) ∙ rw empty at at.invariant.0
