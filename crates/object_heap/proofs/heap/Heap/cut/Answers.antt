use Rattle.std.proofs.Common.{◌≡◌, false, refl, sym, ◌∙◌, ap, List, slice_get}
use Rattle.object_values.specs.declared.value.Value.{Value}
use Rattle.object_heap.specs.Objects.{with_removed}
use Rattle.object_heap.specs.Parts.{frozen_of}
use Rattle.object_heap.proofs.Fronting.{open_list_items, written_behind}
use Rattle.object_heap.proofs.Fitting.{removed_kind}
use Rattle.object_heap.proofs.Retiring.{kept_retired}
use Rattle.object_heap.proofs.heap.Heap.cut.Goals as goal

pub returns-clause-rest : goal.returns-clause-rest
returns-clause-rest c =
    let p = c.self.inside in
    let free : frozen_of p.objects.items c.in-Some.place ≡ false = rw c.as_slice.ensures.value at c.in-Some.ensures.free in
    rw (← c.self.view_is, c.cut_item.ensures.rest) (written_behind p.front p.objects.items p.room c.args.id c.in-Some.place (with_removed c.args.at) c.in-Some.ensures.place free)

pub invariant_of-self : goal.invariant_of-self
invariant_of-self c =
    rw c.cut_item.ensures.rest (kept_retired c.self.inside.settled c.self.inside.objects.items c.in-Some.place (with_removed c.args.at) (removed_kind c.args.at) (λ iface target captures. refl) c.self.invariant)

pub returns-clause-item : goal.returns-clause-item
returns-clause-item c =
    let p = c.self.inside in
    let free : frozen_of p.objects.items c.in-Some.place ≡ false = rw c.as_slice.ensures.value at c.in-Some.ensures.free in
    rw (← c.self.view_is) (c.cut_item.ensures.item ∙ ap (λ (items : List Value). slice_get items c.args.at) (sym (open_list_items p.front p.objects.items c.args.id c.in-Some.place c.in-Some.ensures.place free)))
