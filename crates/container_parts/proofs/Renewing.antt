-- Renewing an iterator is free.
use Rattle.std.proofs.Common.{◌≡◌, ℕ, ◌-◌, Bool, true, false, Option, Some, None, List, refl, arith, slice_get, subst, ◌∙◌}
use Rattle.object_values.specs.declared.object.Object.{Object}
use Rattle.object_values.specs.declared.object.Object.TheVariants as o
use Rattle.object_heap.specs.Objects.{renewal_growth, renewed_by, weight_of}
use Rattle.object_heap.specs.Parts.{asked}
use Rattle.object_heap.specs.Paying.{PaysSurely}
use Rattle.object_heap.specs.Store.{Store, paid, weight, with_change}
use Rattle.object_heap.proofs.Fronting.{whether}
use Rattle.object_heap.proofs.Growth.{renewal_grows}
use Rattle.object_heap.proofs.Paying.{paid_if}

iterator_weighs : (over cursor seen : ℕ) (last : Option ℕ) (found : Option Object) → asked (renewal_growth (o.Iter over cursor seen last)) 0 found ≡ 0
unfolding weight_of
iterator_weighs over cursor seen last None = refl
iterator_weighs over cursor seen last (Some (o.Iter a b c d)) = refl
iterator_weighs over cursor seen last (Some object) = refl

surely : (old new : Store) (objects : List Object) (is : Bool) → paid old objects 0 ≡ Some (record { objects = objects; room = old.room }) → PaysSurely old new objects 0 is
    → new ≡ record { objects = objects; room = old.room }
surely old new objects true p h = cc
surely old new objects false p h = let none : paid old objects 0 ≡ None = h.0 in cc

unpaid : (old : Store) (objects : List Object) → weight objects - weight old.objects ≡ 0 → paid old objects 0 ≡ Some (record { objects = objects; room = old.room })
unpaid old objects e =
    let left : old.room - 0 ≡ old.room = omega arith in
    subst (λ (n : ℕ). paid old objects 0 ≡ Some (record { objects = objects; room = n })) left (paid_if old objects 0 e (omega arith))

pub placed : (old new : Store) (id over cursor seen : ℕ) (last : Option ℕ) (is : Bool) → PaysSurely old new (with_change old.objects id (renewed_by (o.Iter over cursor seen last))) 0 is
    → new ≡ record { objects = with_change old.objects id (renewed_by (o.Iter over cursor seen last)); room = old.room }
placed old new id over cursor seen last is h =
    let free : weight (with_change old.objects id (renewed_by (o.Iter over cursor seen last))) - weight old.objects ≡ 0 =
    whether old.objects id (renewed_by (o.Iter over cursor seen last)) (λ (after : List Object). weight after - weight old.objects ≡ 0) (omega arith)
    (renewal_grows old.objects id (o.Iter over cursor seen last) ∙ iterator_weighs over cursor seen last (slice_get old.objects id)) in
    surely old new (with_change old.objects id (renewed_by (o.Iter over cursor seen last))) is (unpaid old (with_change old.objects id (renewed_by (o.Iter over cursor seen last))) free) h
