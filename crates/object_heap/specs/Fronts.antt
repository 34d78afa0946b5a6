-- Objects that several heaps have in front.
use Rattle.std.specs.Prelude.{◌≡◌, ℕ, zero, suc, Bool, true, false, Option, Some, None, List, [], ◌∷◌}
use Rattle.object_values.specs.declared.object.Object.{Object}
use Rattle.object_heap.specs.Objects.{Kind, AFunction, retired}

-- the objects that an owner holds, and none where there is no owner
abbrev pub objects_in : {A : Type 0} → (A → List Object) → Option A → List Object
objects_in objects None = []
objects_in objects (Some owner) = objects owner

-- there are so many objects, and the first of them are as they are after the end of a script: no lambda of one is among them
abbrev pub AreRetired : ℕ → List Object → Type 0
AreRetired zero objects = Unit {0}
AreRetired (suc n) [] = ⊥
AreRetired (suc n) (object ∷ objects) = (retired object ≡ object) × AreRetired n objects

abbrev pub is_function : Kind → Bool
is_function (AFunction iface) = true
is_function kind = false
