-- The kind of an object that is there.
use Rattle.std.proofs.Common.{◌≡◌, ℕ, zero, suc, Bool, false, List, [], ◌∷◌, slice_get, refl}
use Rattle.object_values.specs.declared.object.Object.{Object}
use Rattle.object_heap.specs.Fits.{kinds, passes}
use Rattle.object_heap.specs.Objects.{Kind, kind_of}
use Rattle.object_heap.specs.Parts.{asked}

pub kind_passes : (test : Kind → Bool) (objects : List Object) (id : ℕ) → asked (λ object. test (kind_of object)) false (slice_get objects id) ≡ passes test (slice_get (kinds objects) id)
kind_passes test [] id = refl
kind_passes test (object ∷ objects) zero = refl
kind_passes test (object ∷ objects) (suc id) = kind_passes test objects id
