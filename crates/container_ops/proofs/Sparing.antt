-- What is read takes memory for an exception or a text alone.
use Rattle.std.proofs.Common.{◌≡◌, ℕ, ℤ, Bool, true, false, Option, Some, None, List, [], ◌∷◌, ◌++◌, length, slice_get, if◌then◌else◌}
use Rattle.pl_types.specs.declared.ty.Ty.{Ty}
use Rattle.object_values.specs.declared.object.Object.{Object}
use Rattle.object_values.specs.declared.object.Object.TheVariants as o
use Rattle.object_values.specs.declared.value.Value.{Value}
use Rattle.object_values.specs.declared.value.Value.TheVariants as v
use Rattle.object_heap.specs.declared.answer.Answer.{Answer}
use Rattle.object_heap.specs.declared.answer.Answer.TheVariants as a
use Rattle.object_heap.specs.Effects as e
use Rattle.object_heap.specs.Store.{Store, paid}
use Rattle.container_outcomes.specs.Equality.{value_or}
use Rattle.container_outcomes.specs.declared.outcome.Outcome.{Outcome}
use Rattle.container_outcomes.specs.declared.outcome.Outcome.TheVariants as outcome
use Rattle.container_outcomes.specs.Outcomes.{WantsMemory, array_index_error, effect, is_text, number_of, says}
use Rattle.container_calls.specs.Indexing as indexing
use Rattle.container_calls.specs.Lists.{place_of}
use Rattle.container_ops.specs.Elements as elements
use Rattle.container_ops.specs.Types.{MakesNothing, Spares, goes_with, is_read_as, other_kind}

-- a value that is there, or an exception
abbrev pub IsRead : Outcome → Type 0
IsRead (outcome.Gives value) = Unit {0}
IsRead (outcome.Throws raised message) = Unit {0}
IsRead told = ⊥

-- an exception that is made is no value
pub throws_spare : (old store : Store) (class : ℕ) (message : Option (List ℕ)) (answer : Answer) → Spares old (e.throws store class message) answer
throws_spare old store class message (a.Value value) = tt
throws_spare old store class message (a.Thrown id) = tt
throws_spare old store class message a.Room = tt
throws_spare old store class message a.NoMemory = made (paid store (store.objects ++ o.Exc class message ∷ []) 0)
  where
    made : (found : Option Store) → MakesNothing old (e.after_paying found (λ paid. e.Throws (length store.objects) paid)) → ⊥
    made None h = h
    made (Some left) h = h

differ : (b : Bool) → b ≡ true → b ≡ false → ⊥
differ true h k = cc
differ false h k = cc

pub read_spares : (old : Store) (told : Outcome) (answer : Answer) → IsRead told → WantsMemory told answer → Spares old (effect old told) answer
read_spares old told (a.Value value) r w = tt
read_spares old told (a.Thrown id) r w = tt
read_spares old told a.Room r w = tt
read_spares old (outcome.Gives value) a.NoMemory r w = λ h. differ (is_text value) w h.0
read_spares old (outcome.Throws raised message) a.NoMemory r w = throws_spare old old (number_of raised) message a.NoMemory
read_spares old told a.NoMemory r w = absurd r

-- ---- what is read

if_read : (test : Bool) (told other : Outcome) → IsRead told → IsRead other → IsRead (if test then told else other)
if_read true told other h k = h
if_read false told other h k = k

refused_read : (at : ℤ) (count : ℕ) → IsRead (array_index_error at count)
unfolding says
refused_read at count = tt

placed_read : (count : ℕ) (at : ℤ) (place : Option ℕ) (next : ℕ → Outcome) → ((place : ℕ) → IsRead (next place)) → IsRead (indexing.at_place array_index_error count at place next)
placed_read count at None next k = refused_read at count
placed_read count at (Some place) next k = k place

in_array_read : (items : List Value) (at : ℤ) (next : ℕ → Outcome) → ((place : ℕ) → IsRead (next place)) → IsRead (elements.in_array items at next)
in_array_read items at next k = placed_read (length items) (indexing.counted (length items) at) (place_of (length items) (indexing.counted (length items) at)) next k

in_read : (of : Ty) (at : ℤ) (found : Option Object) → IsRead (elements.read_in of at found)
in_read of at (Some (o.Array elem items)) =
    if_read (goes_with of elem) (elements.in_array items at (elements.item_read of items)) other_kind
    (in_array_read items at (elements.item_read of items)
    (λ place. if_read (is_read_as of (value_or (slice_get items place) v.Null)) (outcome.Gives (value_or (slice_get items place) v.Null)) other_kind tt tt))
    tt
in_read of at None = tt
in_read of at (Some object) = tt

pub at_read : (objects : List Object) (of : Ty) (array : Value) (at : ℤ) → IsRead (elements.read_at objects of array at)
at_read objects of (v.Ref id) at = in_read of at (slice_get objects id)
at_read objects of value at = tt

in_given : (at : ℤ) (found : Option Object) → IsRead (elements.given_in at found)
in_given at (Some (o.Array elem items)) = in_array_read items at (elements.item_given items) (λ place. tt)
in_given at None = tt
in_given at (Some object) = tt

pub at_given : (objects : List Object) (array : Value) (at : ℤ) → IsRead (elements.given_at objects array at)
at_given objects (v.Ref id) at = in_given at (slice_get objects id)
at_given objects value at = tt

in_length : (found : Option Object) → IsRead (elements.length_in found)
in_length (Some (o.Array elem items)) = tt
in_length None = tt
in_length (Some object) = tt

pub at_length : (objects : List Object) (value : Value) → IsRead (elements.length_told objects value)
at_length objects (v.Ref id) = in_length (slice_get objects id)
at_length objects value = tt
