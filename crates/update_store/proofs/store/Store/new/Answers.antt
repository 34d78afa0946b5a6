use Rattle.std.proofs.Common.{[], List, map, ap, ◌∙◌}
use Rattle.update_store.specs.declared.document.Commit.{Commit}
use Rattle.update_store.specs.Committing.{all_live}
use Rattle.update_store.specs.Documents.{DocumentsData, doc_view}
use Rattle.update_store.proofs.PlaceLemmas.{distinct_docs}
use Rattle.update_store.proofs.RunLemmas.{store_of}
use Rattle.update_store.proofs.store.Store.new.Goals as goal

pub returns-clause-distinct : goal.returns-clause-distinct
returns-clause-distinct c = λ distinct.
    ap (λ (h : List Commit). store_of c.in_ok-documents.documents h) c.new-2.ensures.items
    ∙ ap (λ (d : DocumentsData). store_of d []) (c.in_ok-documents.ensures ∙ ap all_live (distinct_docs (map doc_view c.args.docs.items) distinct))
