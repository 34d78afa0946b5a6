use Rattle.std.proofs.Common.{◌≡◌, false, refl, sym, ◌∙◌, arith, ap, List, slice_get}
use Rattle.object_values.specs.declared.value.Value.{Value}
use Rattle.object_values.specs.Pairs.{value_of}
use Rattle.object_heap.specs.Objects.{with_put}
use Rattle.object_heap.specs.Parts.{frozen_of}
use Rattle.object_heap.proofs.Fronting.{no_room_behind, pairs_behind, pays_behind}
use Rattle.object_heap.proofs.Growth.{put_grows}
use Rattle.object_heap.proofs.Fitting.{key_put_kind}
use Rattle.object_heap.proofs.Retiring.{kept_retired}
use Rattle.object_heap.proofs.heap.Heap.map_put.Goals as goal

pub returns-then-growth-self-clause-pays : goal.returns-then-growth-self-clause-pays
returns-then-growth-self-clause-pays c =
    let p = c.self.inside in
    let free : frozen_of p.objects.items c.in-Some.place ≡ false = rw c.as_slice.ensures.value at c.in-Some.ensures.free in
    let growth = rw c.as_slice-2.ensures.value at c.put_growth-growth.ensures in
    rw (← c.self.view_is)
    (no_room_behind p.front p.objects.items p.room c.args.id c.in-Some.place c.put_growth-growth.result (with_put c.args.key c.args.value) c.in-Some.ensures.place free (put_grows p.objects.items c.in-Some.place c.args.key c.args.value ∙ sym growth) (omega arith), refl)

pub returns-in-Ok-clause-pays : goal.returns-in-Ok-clause-pays
returns-in-Ok-clause-pays c =
    let p = c.self.inside in
    let free : frozen_of p.objects.items c.in-Some.place ≡ false = rw c.as_slice.ensures.value at c.in-Some.ensures.free in
    let growth = rw c.as_slice-2.ensures.value at c.put_growth-growth.ensures in
    rw (← c.self.view_is, c.in-Ok.ensures.ok)
    (pays_behind p.front p.objects.items p.room c.args.id c.in-Some.place c.put_growth-growth.result (with_put c.args.key c.args.value) c.in-Some.ensures.place free (put_grows p.objects.items c.in-Some.place c.args.key c.args.value ∙ sym growth) (omega arith))

pub invariant_of-self : goal.invariant_of-self
invariant_of-self c =
    rw c.in-Ok.ensures.ok (kept_retired c.self.inside.settled c.self.inside.objects.items c.in-Some.place (with_put c.args.key c.args.value) (key_put_kind c.args.key c.args.value) (λ iface target captures. refl) c.self.invariant)

pub returns-in-Ok-clause-before : goal.returns-in-Ok-clause-before
returns-in-Ok-clause-before c =
    let p = c.self.inside in
    rw (← c.self.view_is)
    (c.in-Ok.ensures.before ∙ ap (λ (pairs : List (Value × Value)). value_of pairs c.args.key) (sym (pairs_behind p.front p.objects.items c.args.id c.in-Some.place c.in-Some.ensures.place)))
