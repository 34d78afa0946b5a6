use Rattle.std.proofs.Common.{List, map, sym, ap}
use Rattle.update_store.specs.Documents.{DocData, doc_view, versions_of}
use Rattle.update_store.proofs.PlaceLemmas.{is_cut, none_at, seen, stands_at, without_none}
use Rattle.update_store.proofs.documents.Documents.cut.Goals as goal

pub invariant_of-self : goal.invariant_of-self
invariant_of-self c =
    let docs = c.self.inside.live.items in
    let keys = c.self.inside.places.keys in
    (is_cut c.args.id.now c.in-Some.place keys docs c.shift_remove_index.new.self.keys c.remove.new.self.items c.self.invariant
    (stands_at c.args.id.now c.in-Some.place keys (map doc_view docs) c.in-Some.ensures.index c.self.invariant) c.shift_remove_index.ensures.keys c.remove.ensures.items).places

pub returns-in-Some : goal.returns-in-Some
returns-in-Some c =
    let docs = c.self.inside.live.items in
    let keys = c.self.inside.places.keys in
    let cut =
    is_cut c.args.id.now c.in-Some.place keys docs c.shift_remove_index.new.self.keys c.remove.new.self.items c.self.invariant
    (stands_at c.args.id.now c.in-Some.place keys (map doc_view docs) c.in-Some.ensures.index c.self.invariant) c.shift_remove_index.ensures.keys c.remove.ensures.items in
    rw (← c.self.view_is) (ap (λ (l : List DocData). seen l (versions_of c.self.inside.deleted.entries)) cut.live)

pub returns-in_default : goal.returns-in_default
returns-in_default c =
    let docs = map doc_view c.self.inside.live.items in
    rw (← c.self.view_is) (
    ap (λ (l : List DocData). seen l (versions_of c.self.inside.deleted.entries))
    (sym (without_none c.args.id.now docs (none_at c.args.id.now c.self.inside.places.keys docs c.in_default.ensures.found c.self.invariant)))
    )
