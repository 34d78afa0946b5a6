-- What members want memory for.
use Rattle.std.proofs.Common.{Option, Some, None, ℕ, List}
use Rattle.object_values.specs.declared.value.Value.{Value}
use Rattle.object_heap.specs.declared.answer.Answer.{Answer}
use Rattle.object_heap.specs.declared.answer.Answer.TheVariants as a
use Rattle.object_heap.specs.Effects.{Effect, Gives, Throws, NoRoom, after_paying, throws}
use Rattle.object_heap.specs.Store.{Store}
use Rattle.container_parts.specs.Iterators.{TakesNone}
use Rattle.api_iter.specs.Iterating.{first_of}
use Rattle.api_iter.specs.Members.{IsText, Raises, RaisesOrCopies, WantsIf}

-- a payment and then an exception
paid_raises : (paid : Option Store) (id : ℕ) → Raises (after_paying paid (λ store. Throws id store))
paid_raises None id = tt
paid_raises (Some store) id = tt

paid_copies : (paid : Option Store) (id : ℕ) → RaisesOrCopies (after_paying paid (λ store. Throws id store))
paid_copies None id = tt
paid_copies (Some store) id = tt

if_needed : (needs : Type 0) (answer : Answer) → needs → WantsIf needs answer
if_needed needs a.NoMemory h = h
if_needed needs (a.Value value) h = tt
if_needed needs (a.Thrown id) h = tt
if_needed needs a.Room h = tt

pub raised : (store : Store) (class : ℕ) (message : Option (List ℕ)) (answer : Answer) → WantsIf (Raises (throws store class message)) answer
raised store class message answer = if_needed (Raises (throws store class message)) answer (paid_raises _ _)

pub raised_or_copied : (store : Store) (class : ℕ) (message : Option (List ℕ)) (answer : Answer) → WantsIf (RaisesOrCopies (throws store class message)) answer
raised_or_copied store class message answer = if_needed (RaisesOrCopies (throws store class message)) answer (paid_copies _ _)

-- what takes no memory but for an exception
pub none_taken : (effect : Effect) (answer : Answer) → TakesNone effect answer → WantsIf (Raises effect) answer
none_taken (Gives value store) a.NoMemory h = h
none_taken (Throws id store) a.NoMemory h = tt
none_taken NoRoom a.NoMemory h = tt
none_taken effect (a.Value value) h = tt
none_taken effect (a.Thrown id) h = tt
none_taken effect a.Room h = tt

-- a text that is given
pub copies : (store : Store) (found : Option Value) → IsText found → RaisesOrCopies (first_of store found)
copies store None h = absurd h
copies store (Some value) h = h
