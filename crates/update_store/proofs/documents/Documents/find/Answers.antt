use Rattle.std.proofs.Common.{◌≡◌, ℕ, ◌<◌, List, Option, length, map, slice_get, sym, ap, subst, ◌∙◌}
use Rattle.std.specs.Prelude.{option_map}
use Rattle.std.proofs.lemmas.List.{length-map}
use Rattle.update_store.specs.declared.document.Doc.{Doc}
use Rattle.update_store.specs.Documents.{doc_view}
use Rattle.update_store.proofs.PlaceLemmas.{find_at, got, none_at, slice_view, stands_at}
use Rattle.update_store.proofs.documents.Documents.find.Goals as goal

pub returns-in_default : goal.returns-in_default
returns-in_default c =
    rw (← c.self.view_is) (sym (none_at c.args.id.now c.self.inside.places.keys (map doc_view c.self.inside.live.items) c.in_default.ensures.found c.self.invariant))

pub returns : goal.returns
returns c =
    let docs = c.self.inside.live.items in
    let place = c.in-Some.place in
    let stands = stands_at c.args.id.now place c.self.inside.places.keys (map doc_view docs) c.in-Some.ensures.index c.self.invariant in
    let all : c.deref.result.now ≡ docs = c.deref.ensures.value in
    let within : place < length c.deref.result.now = subst (λ (n : ℕ). place < n) (length-map docs doc_view ∙ ap length (sym all)) stands.within in
    rw (← c.self.view_is) (
    ap (λ (o : Option Doc). option_map doc_view o) (got c.deref.result.now place c.get.result within c.get.ensures.lookup.1 (c.get.ensures.lookup.2 within) ∙ ap (λ (l : List Doc). slice_get l place) all)
    ∙ sym (slice_view docs place)
    ∙ sym (find_at c.args.id.now place (map doc_view docs) stands)
    )
