-- Where a charge is paid, and where it is not.
use Rattle.std.proofs.Common.{◌≡◌, ℕ, ◌+◌, ◌-◌, ◌<◌, ◌≤◌, Some, None, List, arith}
use Rattle.std.proofs.lemmas.Bool.Decides.{nat_tests}
use Rattle.object_values.specs.declared.object.Object.{Object}
use Rattle.object_heap.specs.Store.{Store, weight, charge, paid}

pub paid_if : (s : Store) (objects : List Object) (growth : ℕ) → weight objects - weight s.objects ≡ growth → growth ≤ s.room
    → paid s objects 0 ≡ Some (record { objects = objects; room = s.room - growth })
unfolding paid charge
paid_if s objects growth e h = let c : (weight objects - weight s.objects) + 0 ≡ growth = omega arith in rw c (grind (arith, nat_tests))

pub paid_not : (s : Store) (objects : List Object) (growth : ℕ) → weight objects - weight s.objects ≡ growth → s.room < growth
    → paid s objects 0 ≡ None
unfolding paid charge
paid_not s objects growth e h = let c : (weight objects - weight s.objects) + 0 ≡ growth = omega arith in rw c (grind (arith, nat_tests))

pub charged : (s : Store) (units : ℕ) → units ≤ s.room → paid s s.objects units ≡ Some (record { objects = s.objects; room = s.room - units })
unfolding paid charge
charged s units h = let c : (weight s.objects - weight s.objects) + units ≡ units = omega arith in rw c (grind (arith, nat_tests))

pub not_charged : (s : Store) (units : ℕ) → s.room < units → paid s s.objects units ≡ None
unfolding paid charge
not_charged s units h = let c : (weight s.objects - weight s.objects) + units ≡ units = omega arith in rw c (grind (arith, nat_tests))
