use Rattle.std.proofs.Common.{◌≡◌, [], length, map}
use Rattle.std.specs.Vec.Iter.{into_iter_items, into_iter_len}
use Rattle.update_store.specs.Documents.{ArePlaces, doc_view, with_docs}
use Rattle.update_store.proofs.documents.Documents.new.Given as goal

-- the documents so far and those that are left are all
abbrev pub invariant-loop-doc : goal.invariant-loop-doc
invariant-loop-doc l = ArePlaces l.places.keys (map doc_view l.live.items)
    × (with_docs (map doc_view l.live.items) (map doc_view (into_iter_items l.doc-iterator)) ≡ with_docs [] (map doc_view l.fn.docs.items))
    × (into_iter_len l.doc-iterator ≡ length (into_iter_items l.doc-iterator))
