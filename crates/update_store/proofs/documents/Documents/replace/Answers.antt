use Rattle.std.proofs.Common.{◌≡◌, List, Option, None, OnOk, map, subst, sym, ap, ◌∙◌}
use Rattle.serde_json.specs.View.{view}
use Rattle.update_store.specs.Documents.{Index, DocData, DocumentsData, ArePlaces, changed, doc_view, find, versions_of}
use Rattle.update_store.proofs.PlaceLemmas.{find_at, none_at, places_rewritten, rewritten_at, seen, some_at, stands_at}
use Rattle.update_store.proofs.documents.Documents.replace.Goals as goal

pub returns-in_default-clause-ok : goal.returns-in_default-clause-ok
returns-in_default-clause-ok c =
    let docs = map doc_view c.self.inside.live.items in
    let none : find c.args.id.now c.args.self.now.live ≡ None =
    ap (λ (d : DocumentsData). find c.args.id.now d.live) (sym c.self.view_is)
    ∙ none_at c.args.id.now c.self.inside.places.keys docs c.in_default.ensures.found c.self.invariant in
    subst (λ (o : Option DocData). OnOk c.remove.result (c.remove.new.self ≡ changed c.args.id.now c.args.version (Index (view c.args.source)) o c.args.self.now)) (sym none) c.remove.ensures.ok

pub invariant_of-self : goal.invariant_of-self
invariant_of-self c =
    let docs = c.self.inside.live.items in
    let keys = c.self.inside.places.keys in
    let stands = stands_at c.args.id.now c.in-Some.place keys (map doc_view docs) c.in-Some.ensures.index c.self.invariant in
    subst (λ (ds : List DocData). ArePlaces keys ds)
    (sym (rewritten_at c.args.id.now c.in-Some.place c.args.version (view c.args.source) docs c.index_mut-doc.result.now c.rewrite.new.doc stands c.index_mut-doc.ensures.value c.rewrite.ensures))
    (places_rewritten c.args.id.now c.args.version (view c.args.source) keys (map doc_view docs) c.self.invariant)

pub returns-clause-ok : goal.returns-clause-ok
returns-clause-ok c =
    let docs = c.self.inside.live.items in
    let deleted = versions_of c.self.inside.deleted.entries in
    let stands = stands_at c.args.id.now c.in-Some.place c.self.inside.places.keys (map doc_view docs) c.in-Some.ensures.index c.self.invariant in
    let found = find_at c.args.id.now c.in-Some.place (map doc_view docs) stands ∙ some_at (map doc_view docs) c.in-Some.place (doc_view c.index_mut-doc.result.now) stands.within in
    rw (← c.self.view_is) (
    ap (λ (l : List DocData). seen l deleted)
    (rewritten_at c.args.id.now c.in-Some.place c.args.version (view c.args.source) docs c.index_mut-doc.result.now c.rewrite.new.doc stands c.index_mut-doc.ensures.value c.rewrite.ensures)
    ∙ sym (ap (λ (o : Option DocData). changed c.args.id.now c.args.version (Index (view c.args.source)) o (seen (map doc_view docs) deleted)) found)
    )
