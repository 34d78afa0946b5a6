use Rattle.std.proofs.Common.{◌≡◌, false, refl, sym, ◌∙◌, arith}
use Rattle.object_heap.specs.Objects.{with_units}
use Rattle.object_heap.specs.Parts.{frozen_of}
use Rattle.object_heap.proofs.Fronting.{no_room_behind, pays_behind}
use Rattle.object_heap.proofs.Growth.{append_grows}
use Rattle.object_heap.proofs.Fitting.{units_kind}
use Rattle.object_heap.proofs.Retiring.{kept_retired}
use Rattle.object_heap.proofs.heap.Heap.append.Goals as goal

pub returns-then-growth-self : goal.returns-then-growth-self
returns-then-growth-self c =
    let p = c.self.inside in
    let free : frozen_of p.objects.items c.in-Some.place ≡ false = rw c.as_slice.ensures.value at c.in-Some.ensures.free in
    let growth = rw c.as_slice-2.ensures.value at c.units_growth-growth.ensures in
    rw (← c.self.view_is)
    (no_room_behind p.front p.objects.items p.room c.args.id c.in-Some.place c.units_growth-growth.result (with_units c.args.units.now) c.in-Some.ensures.place free (append_grows p.objects.items c.in-Some.place c.args.units.now ∙ sym growth) (omega arith), refl)

pub returns-in-Ok : goal.returns-in-Ok
returns-in-Ok c =
    let p = c.self.inside in
    let free : frozen_of p.objects.items c.in-Some.place ≡ false = rw c.as_slice.ensures.value at c.in-Some.ensures.free in
    let growth = rw c.as_slice-2.ensures.value at c.units_growth-growth.ensures in
    rw (← c.self.view_is, c.in-Ok.ensures.ok)
    (pays_behind p.front p.objects.items p.room c.args.id c.in-Some.place c.units_growth-growth.result (with_units c.args.units.now) c.in-Some.ensures.place free (append_grows p.objects.items c.in-Some.place c.args.units.now ∙ sym growth) (omega arith))

pub invariant_of-self : goal.invariant_of-self
invariant_of-self c =
    rw c.in-Ok.ensures.ok (kept_retired c.self.inside.settled c.self.inside.objects.items c.in-Some.place (with_units c.args.units.now) (units_kind c.args.units.now) (λ iface target captures. refl) c.self.invariant)
