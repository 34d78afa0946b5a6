use Rattle.std.proofs.Common.{◌≡◌, false, refl, sym, ◌∙◌, ap, List, slice_get}
use Rattle.object_values.specs.declared.value.Value.{Value}
use Rattle.object_values.specs.Pairs.{value_of}
use Rattle.object_heap.specs.Objects.{with_key_cut}
use Rattle.object_heap.specs.Parts.{frozen_of}
use Rattle.object_heap.proofs.Fronting.{open_pairs, written_behind}
use Rattle.object_heap.proofs.Fitting.{key_cut_kind}
use Rattle.object_heap.proofs.Retiring.{kept_retired}
use Rattle.object_heap.proofs.heap.Heap.map_cut.Goals as goal

pub returns-clause-rest : goal.returns-clause-rest
returns-clause-rest c =
    let p = c.self.inside in
    let free : frozen_of p.objects.items c.in-Some.place ≡ false = rw c.as_slice.ensures.value at c.in-Some.ensures.free in
    rw (← c.self.view_is, c.cut_key.ensures.rest) (written_behind p.front p.objects.items p.room c.args.id c.in-Some.place (with_key_cut c.args.key.now) c.in-Some.ensures.place free)

pub invariant_of-self : goal.invariant_of-self
invariant_of-self c =
    rw c.cut_key.ensures.rest (kept_retired c.self.inside.settled c.self.inside.objects.items c.in-Some.place (with_key_cut c.args.key.now) (key_cut_kind c.args.key.now) (λ iface target captures. refl) c.self.invariant)

pub returns-clause-before : goal.returns-clause-before
returns-clause-before c =
    let p = c.self.inside in
    let free : frozen_of p.objects.items c.in-Some.place ≡ false = rw c.as_slice.ensures.value at c.in-Some.ensures.free in
    rw (← c.self.view_is) (c.cut_key.ensures.before ∙ ap (λ (pairs : List (Value × Value)). value_of pairs c.args.key.now) (sym (open_pairs p.front p.objects.items c.args.id c.in-Some.place c.in-Some.ensures.place free)))
