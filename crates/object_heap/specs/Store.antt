-- The store: its objects, and the room that is left.
use Rattle.std.specs.Prelude.{ℕ, ◌+◌, ◌-◌, nat_le, Option, Some, None, List, [], ◌∷◌, slice_get, slice_set, if◌then◌else◌}
use Rattle.object_values.specs.declared.object.Object.{Object}
use Rattle.object_heap.specs.Objects.{weight_of}
use Rattle.object_heap.specs.Parts.{frozen_of}

pub record Store : Type 0 where
  pub objects : List Object
  pub room : ℕ

abbrev pub weight : List Object → ℕ
weight [] = 0
weight (object ∷ objects) = weight_of object + weight objects

-- What is charged where the objects become these, and texts are made whose units, and one for each text, are so many: the
-- growth of the weight, none where it shrinks, and what is made
unfoldable pub charge : Store → List Object → ℕ → ℕ
charge store objects made = (weight objects - weight store.objects) + made

-- the store with these objects once the charge is paid, if there is room
unfoldable pub paid : Store → List Object → ℕ → Option Store
paid store objects made =
    if nat_le (charge store objects made) store.room
    then Some (record { objects = objects; room = store.room - charge store objects made })
    else None

-- the objects with one of them changed; where there is none of this number they stay as they are
abbrev pub changed_at : List Object → ℕ → (Object → Object) → Option Object → List Object
changed_at objects id change None = objects
changed_at objects id change (Some object) = slice_set objects id (change object)

abbrev pub changed_one : List Object → ℕ → (Object → Object) → List Object
changed_one objects id change = changed_at objects id change (slice_get objects id)

-- the same, where nothing changes what is frozen
abbrev pub with_change : List Object → ℕ → (Object → Object) → List Object
with_change objects id change = if frozen_of objects id then objects else changed_one objects id change
