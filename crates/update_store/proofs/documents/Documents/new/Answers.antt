use Rattle.std.proofs.Common.{rules, ◌≡◌, ◌∷◌, [], List, length, map, sym, ap, subst, ◌∙◌, arith}
use Rattle.std.specs.Vec.Iter.{into_iter_items}
use Rattle.update_store.specs.declared.document.Doc.{Doc}
use Rattle.update_store.specs.Documents.{DocData, doc_view, with_docs}
use Rattle.update_store.proofs.PlaceLemmas.{all_live_so, places_none}
use Rattle.update_store.proofs.RunLemmas.{nothing_left}
use Rattle.update_store.proofs.documents.Documents.new.Goals as goal

pub loop-doc-init : goal.loop-doc-init
loop-doc-init c =
    let gives = c.into_iter-doc-iterator.ensures.into_iter_gives in (
      rw (c.in_ok-places.ensures.empty, c.in_ok-live.ensures.items) places_none,
      rw c.in_ok-live.ensures.items (ap (λ (l : List Doc). with_docs [] (map doc_view l)) gives.0),
      search rules,
    )

pub loop-doc-preserved : goal.loop-doc-preserved
loop-doc-preserved c =
    let at = c.loop-doc in
    let doc = c.in-Some.doc in
    let steps : into_iter_items at.doc-iterator ≡ doc ∷ into_iter_items c.next.new.self = c.in-Some.ensures.steps.0 in
    let short = ap length steps in
    let added = c.in_ok-add.ensures at.invariant.0 in
    let rest = map doc_view (into_iter_items c.next.new.self) in (
      added.0,
      ap (λ (l : List DocData). with_docs l rest) added.1 ∙ subst (λ (l : List Doc). with_docs (map doc_view at.live.items) (map doc_view l) ≡ with_docs [] (map doc_view c.args.docs.items)) steps at.invariant.1,
      let gone = c.in-Some.ensures.steps.1 in omega (arith, at.invariant.2, gone, short),
    )

pub invariant_of-result : goal.invariant_of-result
invariant_of-result c = c.loop-doc.invariant.0

pub returns : goal.returns
returns c =
    let at = c.loop-doc in
    let none = c.in-None.ensures.steps in
    let empty : into_iter_items at.doc-iterator ≡ [] = nothing_left _ (sym at.invariant.2 ∙ none.0) in
    all_live_so (map doc_view at.live.items) c.new.result.entries (with_docs [] (map doc_view c.args.docs.items)) c.new.ensures.empty
    (subst (λ (l : List Doc). with_docs (map doc_view at.live.items) (map doc_view l) ≡ with_docs [] (map doc_view c.args.docs.items)) empty at.invariant.1)
