use Rattle.std.proofs.Common.{◌≡◌, false, refl, sym, ◌∙◌, arith}
use Rattle.object_heap.specs.Objects.{renewed_by}
use Rattle.object_heap.specs.Parts.{frozen_of}
use Rattle.object_heap.proofs.Fronting.{no_room_behind, pays_behind}
use Rattle.object_heap.proofs.Growth.{renewal_grows}
use Rattle.object_heap.proofs.Retiring.{replaced_retired}
use Rattle.object_heap.proofs.heap.Heap.renew.Goals as goal

pub returns-then-growth-self : goal.returns-then-growth-self
returns-then-growth-self c =
    let p = c.self.inside in
    let free : frozen_of p.objects.items c.in-Some.place ≡ false = rw c.as_slice.ensures.value at c.in-Some.ensures.free in
    let growth = rw c.as_slice-2.ensures.value at c.renewal_growth_at-growth.ensures in
    rw (← c.self.view_is)
    (no_room_behind p.front p.objects.items p.room c.args.id c.in-Some.place c.renewal_growth_at-growth.result (renewed_by c.args.object) c.in-Some.ensures.place free (renewal_grows p.objects.items c.in-Some.place c.args.object ∙ sym growth) (omega arith), refl)

pub returns : goal.returns
returns c =
    let p = c.self.inside in
    let free : frozen_of p.objects.items c.in-Some.place ≡ false = rw c.as_slice.ensures.value at c.in-Some.ensures.free in
    let growth = rw c.as_slice-2.ensures.value at c.renewal_growth_at-growth.ensures in
    rw (← c.self.view_is, c.renew_at.ensures)
    (pays_behind p.front p.objects.items p.room c.args.id c.in-Some.place c.renewal_growth_at-growth.result (renewed_by c.args.object) c.in-Some.ensures.place free (renewal_grows p.objects.items c.in-Some.place c.args.object ∙ sym growth) (omega arith))

pub invariant_of-self : goal.invariant_of-self
invariant_of-self c =
    let p = c.self.inside in
    rw c.renew_at.ensures
    (replaced_retired p.settled c.still_retired-self-inside.result p.objects.items c.in-Some.place c.args.object c.still_retired-self-inside.ensures.fewer c.still_retired-self-inside.ensures.before c.self.invariant)
