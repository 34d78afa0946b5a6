use Rattle.std.proofs.Common.{◌≡◌, false, refl, sym, ◌∙◌, ap, List, slice_get}
use Rattle.object_values.specs.declared.value.Value.{Value}
use Rattle.object_heap.specs.Objects.{with_item}
use Rattle.object_heap.specs.Parts.{frozen_of}
use Rattle.object_heap.proofs.Fronting.{open_items, written_behind}
use Rattle.object_heap.proofs.Fitting.{item_kind}
use Rattle.object_heap.proofs.Retiring.{kept_retired}
use Rattle.object_heap.proofs.heap.Heap.put.Goals as goal

pub returns-clause-written : goal.returns-clause-written
returns-clause-written c =
    let p = c.self.inside in
    let free : frozen_of p.objects.items c.in-Some.place ≡ false = rw c.as_slice.ensures.value at c.in-Some.ensures.free in
    rw (← c.self.view_is, c.put_item.ensures.written) (written_behind p.front p.objects.items p.room c.args.id c.in-Some.place (with_item c.args.at c.args.value) c.in-Some.ensures.place free)

pub invariant_of-self : goal.invariant_of-self
invariant_of-self c =
    rw c.put_item.ensures.written (kept_retired c.self.inside.settled c.self.inside.objects.items c.in-Some.place (with_item c.args.at c.args.value) (item_kind c.args.at c.args.value) (λ iface target captures. refl) c.self.invariant)

pub returns-clause-before : goal.returns-clause-before
returns-clause-before c =
    let p = c.self.inside in
    let free : frozen_of p.objects.items c.in-Some.place ≡ false = rw c.as_slice.ensures.value at c.in-Some.ensures.free in
    rw (← c.self.view_is) (c.put_item.ensures.before ∙ ap (λ (items : List Value). slice_get items c.args.at) (sym (open_items p.front p.objects.items c.args.id c.in-Some.place c.in-Some.ensures.place free)))
