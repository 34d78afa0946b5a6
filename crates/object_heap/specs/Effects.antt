-- What comes of a call of a member or an operator.
use Rattle.std.specs.Prelude.{◌≡◌, ℕ, ◌+◌, Option, Some, None, List, [], ◌∷◌, ◌++◌, length}
use Rattle.object_heap.specs.declared.answer.Answer.{Answer}
use Rattle.object_heap.specs.declared.answer.Answer.TheVariants as a
use Rattle.object_values.specs.declared.value.Value.{Value}
use Rattle.object_values.specs.declared.value.Value.TheVariants as v
use Rattle.object_values.specs.declared.object.Object.{Object}
use Rattle.object_values.specs.declared.object.Object.TheVariants as o
use Rattle.object_heap.specs.Store.{Store, paid}

-- a value and a store; an exception, by its number, and a store; or no room
pub data Effect : Type 0 where
  Gives : (value : Value) (store : Store) → Effect
  Throws : (id : ℕ) (store : Store) → Effect
  NoRoom : Effect

-- goes on with the store that is paid
abbrev pub after_paying : Option Store → (Store → Effect) → Effect
after_paying None next = NoRoom
after_paying (Some store) next = next store

-- gives the value once these objects are paid
abbrev pub gives_paid : Store → List Object → Value → Effect
gives_paid store objects value = after_paying (paid store objects 0) (λ paid. Gives value paid)

-- makes a text, which costs its units and one
abbrev pub gives_text : Store → List ℕ → Effect
gives_text store text = after_paying (paid store store.objects (length text + 1)) (λ paid. Gives (v.Str text) paid)

-- throws a new exception
abbrev pub throws : Store → ℕ → Option (List ℕ) → Effect
throws store class message =
    after_paying (paid store (store.objects ++ o.Exc class message ∷ []) 0) (λ paid. Throws (length store.objects) paid)

-- what a call answers is its effect. After Room and want of memory the heap is as before
abbrev pub Answers : Effect → Store → Store → Answer → Type 0
Answers effect old new (a.Value value) = effect ≡ Gives value new
Answers effect old new (a.Thrown id) = effect ≡ Throws id new
Answers effect old new a.Room = (effect ≡ NoRoom) × (new ≡ old)
Answers effect old new a.NoMemory = new ≡ old
