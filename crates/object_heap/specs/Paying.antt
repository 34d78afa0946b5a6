-- What comes of an operation that is paid from the room.
use Rattle.std.specs.Prelude.{◌≡◌, ℕ, Bool, true, false, Some, None, List, Result, Ok, Err}
use Rattle.object_heap.specs.declared.error.HeapErr.{HeapErr}
use Rattle.object_heap.specs.declared.error.HeapErr.TheVariants.{Room, NoMemory}
use Rattle.object_values.specs.declared.object.Object.{Object}
use Rattle.object_heap.specs.Store.{Store, paid}

-- From the old store the objects become these, and so much text is made. An error leaves the store as it was, and Room comes
-- exactly where the charge is above the room left
abbrev pub Pays : {A : Type 0} → Store → Store → List Object → ℕ → Result A HeapErr → Type 0
Pays old new objects made (Ok _) = paid old objects made ≡ Some new
Pays old new objects made (Err Room) = (paid old objects made ≡ None) × (new ≡ old)
Pays old new objects made (Err NoMemory) = new ≡ old

-- the same of what takes no memory: it is true where it is paid
abbrev pub PaysSurely : Store → Store → List Object → ℕ → Bool → Type 0
PaysSurely old new objects made true = paid old objects made ≡ Some new
PaysSurely old new objects made false = (paid old objects made ≡ None) × (new ≡ old)
