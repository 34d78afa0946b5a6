use Rattle.std.proofs.Common.{rules, ◌≡◌, ◌∷◌, [], ◌++◌, length, map, sym, ap, subst, ◌∙◌, append-nil, arith}
use Rattle.std.proofs.lemmas.List.{map-append}
use Rattle.std.specs.Vec.Iter.{into_iter_items}
use Rattle.serde_json.specs.View.{view}
use Rattle.update_store.specs.Updates.{replies_of}
use Rattle.update_store.proofs.RunLemmas.{nothing_left, replies_more}
use Rattle.update_store.proofs.running.replies_of.Goals as goal

pub loop-task-init : goal.loop-task-init
loop-task-init c =
    let gives = c.into_iter-task-iterator.ensures.into_iter_gives in (rw c.in_ok-replies.ensures.items (ap (λ l. replies_of l) gives.0), search rules)

pub loop-task-preserved : goal.loop-task-preserved
loop-task-preserved c =
    let at = c.loop-task in
    let task = c.in-Some.task in
    let steps : into_iter_items at.task-iterator ≡ task ∷ into_iter_items c.next.new.self = c.in-Some.ensures.steps.0 in
    let short = ap length steps in
    let so = subst (λ l. map view at.replies.items ++ replies_of l ≡ replies_of c.args.tasks.items) steps at.invariant.0 in (
      replies_more (map view at.replies.items) (map view c.push.new.self.items) task (into_iter_items c.next.new.self) c.args.tasks.items so
          (ap (λ l. map view l) c.in_ok-push.ensures.items ∙ map-append view at.replies.items (c.into_reply.result ∷ []) ∙ ap (λ d. map view at.replies.items ++ d ∷ []) c.into_reply.ensures),
      let gone = c.in-Some.ensures.steps.1 in omega (arith, at.invariant.1, gone, short),
    )

pub returns : goal.returns
returns c =
    let at = c.loop-task in
    let none = c.in-None.ensures.steps in
    let empty : into_iter_items at.task-iterator ≡ [] = nothing_left _ (sym at.invariant.1 ∙ none.0) in
    sym (append-nil (map view at.replies.items)) ∙ rw empty at at.invariant.0
