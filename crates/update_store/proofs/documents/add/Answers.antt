use Rattle.std.proofs.Common.{◌≡◌, ◌∷◌, ℕ, [], List, not, map, string_bytes, subst, sym, ap, ◌∙◌, bytes_eq}
use Rattle.std.proofs.lemmas.List.{map-append}
use Rattle.std.specs.List.{list_any}
use Rattle.update_store.specs.Documents.{DocData, IsAdded, doc_view, with_id}
use Rattle.update_store.proofs.PlaceLemmas.{added_new, added_old}
use Rattle.update_store.proofs.documents.add.Goals as goal

pub returns-then-not-branch : goal.returns-then-not-branch
returns-then-not-branch c =
    let same : string_bytes c.in_ok-id.id ≡ string_bytes c.args.doc.id = c.in_ok-id.ensures.cases in
    let keys = c.args.places.now.keys in
    let is = sym c.if-not-branch.true ∙ c.in_ok-put_id.ensures.new ∙ ap (λ (i : List ℕ). not (list_any (bytes_eq i) (map string_bytes keys))) same in
    added_old keys c.put_id.new.places.keys (map doc_view c.args.live.now.items) (doc_view c.args.doc) is (c.in_ok-put_id.ensures.keys ∙ ap (with_id (map string_bytes keys)) same)

pub returns : goal.returns
returns c =
    let same : string_bytes c.in_ok-id.id ≡ string_bytes c.args.doc.id = c.in_ok-id.ensures.cases in
    let keys = c.args.places.now.keys in
    let is = sym c.if-not-branch.false ∙ c.in_ok-put_id.ensures.new ∙ ap (λ (i : List ℕ). not (list_any (bytes_eq i) (map string_bytes keys))) same in
    subst (λ (l : List DocData). IsAdded keys (map doc_view c.args.live.now.items) (doc_view c.args.doc) c.put_id.new.places.keys l)
    (sym (ap (map doc_view) c.in_ok-push.ensures.items ∙ map-append doc_view c.args.live.now.items (c.args.doc ∷ [])))
    (added_new keys c.put_id.new.places.keys (map doc_view c.args.live.now.items) (doc_view c.args.doc) is (c.in_ok-put_id.ensures.keys ∙ ap (with_id (map string_bytes keys)) same))
