-- What members of containers come to, before it is paid, and what that does to the store.
use Rattle.std.specs.Prelude.{◌≡◌, ℕ, ℤ, ◌+◌, nat_lt, Bool, true, false, not, ◌||◌, Option, Some, None, List, [], ◌∷◌, ◌++◌, length, codes, is_some, slice_get, if◌then◌else◌}
use Rattle.std.specs.Fmt.{decimal, signed_decimal}
use Rattle.pl_units.specs.Utf16.{units}
use Rattle.pl_types.specs.declared.classes.TheConstants.{ARRAY_INDEX_OUT_OF_BOUNDS_EXCEPTION, CLASS_CAST_EXCEPTION, CONCURRENT_MODIFICATION_EXCEPTION, ILLEGAL_ARGUMENT_EXCEPTION, ILLEGAL_STATE_EXCEPTION, INDEX_OUT_OF_BOUNDS_EXCEPTION, NO_SUCH_ELEMENT_EXCEPTION, NULL_POINTER_EXCEPTION, UNSUPPORTED_OPERATION_EXCEPTION}
use Rattle.object_values.specs.declared.object.Object.{Object}
use Rattle.object_values.specs.declared.object.Object.TheVariants as o
use Rattle.object_values.specs.declared.value.Value.{Value}
use Rattle.object_values.specs.declared.value.Value.TheVariants as v
use Rattle.object_values.specs.Pairs.{value_of}
use Rattle.object_heap.specs.declared.answer.Answer.{Answer}
use Rattle.object_heap.specs.declared.answer.Answer.TheVariants as a
use Rattle.object_heap.specs.Effects.{Effect, Gives, after_paying, gives_paid, gives_text, throws}
use Rattle.object_heap.specs.Objects.{renewed_by, with_all_inserted, with_all_put, with_inserted, with_item, with_key_cut, with_pair_cut, with_put, with_removed}
use Rattle.object_heap.specs.Parts.{items_of, open_items_of, open_list_items_of, open_pairs_of, pairs_of, size_of}
use Rattle.object_heap.specs.Store.{Store, paid, with_change}
use Rattle.value_walks.specs.Equality.{value_now, value_or}
use Rattle.container_outcomes.specs.declared.outcome.Raised.{Raised}
use Rattle.container_outcomes.specs.declared.outcome.Raised.TheVariants as raised
use Rattle.container_outcomes.specs.declared.outcome.Outcome.{Outcome}
use Rattle.container_outcomes.specs.declared.outcome.Outcome.TheVariants as outcome

-- the number of a class of exceptions
abbrev pub number_of : Raised → ℕ
number_of raised.ArrayIndexOutOfBounds = ARRAY_INDEX_OUT_OF_BOUNDS_EXCEPTION
number_of raised.ClassCast = CLASS_CAST_EXCEPTION
number_of raised.ConcurrentModification = CONCURRENT_MODIFICATION_EXCEPTION
number_of raised.IllegalArgument = ILLEGAL_ARGUMENT_EXCEPTION
number_of raised.IllegalState = ILLEGAL_STATE_EXCEPTION
number_of raised.IndexOutOfBounds = INDEX_OUT_OF_BOUNDS_EXCEPTION
number_of raised.NoSuchElement = NO_SUCH_ELEMENT_EXCEPTION
number_of raised.NullPointer = NULL_POINTER_EXCEPTION
number_of raised.UnsupportedOperation = UNSUPPORTED_OPERATION_EXCEPTION

-- a new object, which costs its weight; and one behind others that it needs
abbrev pub gives_new : Store → Object → Effect
gives_new store object = after_paying (paid store (store.objects ++ object ∷ []) 0) (λ paid. Gives (v.Ref (length store.objects)) paid)

abbrev pub gives_made : Store → List Object → Object → Effect
gives_made store before object = after_paying (paid store (store.objects ++ before ++ object ∷ []) 0) (λ paid. Gives (v.Ref (length store.objects + length before)) paid)

-- the store with one object changed, where that is free
abbrev pub changed_freely : Store → ℕ → (Object → Object) → Store
changed_freely store id change = record { objects = with_change store.objects id change; room = store.room }

-- the item at a place, or null
abbrev pub item_now : List Object → ℕ → ℕ → Value
item_now objects id at = value_or (slice_get (items_of objects id) at) v.Null

-- whether a map or a set has a key
abbrev pub has_key : List Object → ℕ → Value → Bool
has_key objects id key = is_some (value_of (pairs_of objects id) key)

-- what is written over or taken out, or null: of what is frozen nothing is
abbrev pub item_out : List Object → ℕ → ℕ → Value
item_out objects id at = value_or (slice_get (open_items_of objects id) at) v.Null

abbrev pub list_item_out : List Object → ℕ → ℕ → Value
list_item_out objects id at = value_or (slice_get (open_list_items_of objects id) at) v.Null

abbrev pub key_out : List Object → ℕ → Value → Option Value
key_out objects id key = value_of (open_pairs_of objects id) key

-- A list, a map or a set takes the place of another of its kind and class; no other object does
abbrev pub is_collection : Object → Bool
is_collection (o.List class items guard changes) = true
is_collection (o.Map class pairs guard changes) = true
is_collection (o.Set class items guard changes) = true
is_collection object = false

abbrev pub gives_renewed : Store → ℕ → Object → Value → Effect
gives_renewed store id object value =
    if is_collection object then gives_paid store (with_change store.objects id (renewed_by object)) value else Gives value store

-- a set with further keys, which costs what it grows by; and whether it grew
abbrev pub gives_grown : Store → ℕ → List (Value × Value) → Effect
gives_grown store id keys =
    after_paying (paid store (with_change store.objects id (with_all_put keys)) 0) (λ paid. Gives (v.Bool (nat_lt (size_of store.objects id) (size_of paid.objects id))) paid)

-- The effect of an outcome. A value is free. A text costs its units and one, and a new object its weight. What is inserted or put
-- costs what the list, the set or the map grows by, and so does an object that takes the place of another. What is written or taken
-- out is free. An exception is a new object. (That there is no memory is what a call says of an outcome, and no member comes to it.)
abbrev pub effect : Store → Outcome → Effect
effect store (outcome.Gives value) = Gives value store
effect store (outcome.Writes text) = gives_text store text
effect store (outcome.New object) = gives_new store object
effect store (outcome.Makes before object) = gives_made store before object
effect store (outcome.Inserts id at item value) = gives_paid store (with_change store.objects id (with_inserted at item)) value
effect store (outcome.Extends id at items value) = gives_paid store (with_change store.objects id (with_all_inserted at items)) value
effect store (outcome.Sets id at item) = Gives (item_out store.objects id at) (changed_freely store id (with_item at item))
effect store (outcome.SetsTwo id at item other_at other) = Gives v.Null (changed_freely (changed_freely store id (with_item at item)) id (with_item other_at other))
effect store (outcome.Cuts id at) = Gives (list_item_out store.objects id at) (changed_freely store id (with_removed at))
effect store (outcome.Drops id at) = Gives (v.Bool true) (changed_freely store id (with_removed at))
effect store (outcome.Puts id key value) = gives_paid store (with_change store.objects id (with_put key value)) (value_now store.objects id key)
effect store (outcome.Adds id key) = gives_paid store (with_change store.objects id (with_put key v.Null)) (v.Bool (not (has_key store.objects id key)))
effect store (outcome.PutsAll id pairs) = gives_paid store (with_change store.objects id (with_all_put pairs)) v.Null
effect store (outcome.AddsAll id keys) = gives_grown store id keys
effect store (outcome.CutsKey id key) = Gives (value_or (key_out store.objects id key) v.Null) (changed_freely store id (with_key_cut key))
effect store (outcome.DropsKey id key) = Gives (v.Bool (is_some (key_out store.objects id key))) (changed_freely store id (with_key_cut key))
effect store (outcome.DropsEntry id key) = Gives (v.Bool (is_some (key_out store.objects id key))) (changed_freely store id (with_key_cut key))
effect store (outcome.CutsPair id at) = Gives (v.Bool true) (changed_freely store id (with_pair_cut at))
effect store (outcome.Empties id object) = gives_renewed store id object v.Null
effect store (outcome.Becomes id object value) = gives_renewed store id object value
effect store (outcome.Throws raised message) = throws store (number_of raised) message
effect store outcome.NoMemory = Gives v.Null store

abbrev pub is_text : Value → Bool
is_text (v.Str text) = true
is_text value = false

-- What is given is there already, and what is taken out or emptied is let go: nothing is made for it. A text that is given or set is
-- copied, and so is the key of an entry
abbrev pub NeedsMemory : Outcome → Type 0
NeedsMemory (outcome.Gives value) = is_text value ≡ true
NeedsMemory (outcome.Sets id at item) = is_text item ≡ true
NeedsMemory (outcome.SetsTwo id at item other_at other) = (is_text item || is_text other) ≡ true
NeedsMemory (outcome.Cuts id at) = ⊥
NeedsMemory (outcome.Drops id at) = ⊥
NeedsMemory (outcome.CutsKey id key) = ⊥
NeedsMemory (outcome.DropsKey id key) = ⊥
NeedsMemory (outcome.CutsPair id at) = ⊥
NeedsMemory (outcome.Empties id object) = ⊥
NeedsMemory told = Unit {0}

-- What a function of a member says is the outcome. It may say that there is no memory where something is made or copied
abbrev pub Tells : Outcome → Outcome → Type 0
Tells told outcome.NoMemory = NeedsMemory told
Tells told said = told ≡ said

-- a call answers want of memory only where something is made or copied
abbrev pub WantsMemory : Outcome → Answer → Type 0
WantsMemory told a.NoMemory = NeedsMemory told
WantsMemory told answer = Unit {0}

-- of a number that is no member's
abbrev pub nothing : Outcome
nothing = outcome.Gives v.Null

abbrev pub flag : Bool → Outcome
flag is = outcome.Gives (v.Bool is)

-- an exception with a message, given by its bytes
unfoldable pub says : Raised → List ℕ → Outcome
says raised message = outcome.Throws raised (Some (units message))

abbrev pub fails : Raised → Outcome
fails raised = outcome.Throws raised None

abbrev pub null_error : Outcome
null_error = fails raised.NullPointer

-- a change of what nothing, or not this, may change
abbrev pub unsupported : Outcome
unsupported = fails raised.UnsupportedOperation

abbrev pub too_deep : Outcome
too_deep = says raised.IllegalState (codes "value nested too deeply")

abbrev pub too_large : Outcome
too_large = says raised.IllegalState (codes "value too large to walk")

abbrev pub not_simple : Outcome
not_simple = says raised.IllegalArgument (codes "key must be a simple value")

-- a place that is out of range
abbrev pub index_message : ℤ → ℕ → List ℕ
index_message at count = codes "Index " ++ signed_decimal at ++ codes " out of bounds for length " ++ decimal count

abbrev pub index_error : ℤ → ℕ → Outcome
index_error at count = says raised.IndexOutOfBounds (index_message at count)

abbrev pub array_index_error : ℤ → ℕ → Outcome
array_index_error at count = says raised.ArrayIndexOutOfBounds (index_message at count)

-- Whatever is answered, it is no want of memory
abbrev pub MakesNothing : Answer → Type 0
MakesNothing a.NoMemory = ⊥
MakesNothing answer = Unit {0}

-- a value is answered
abbrev pub IsGiven : Answer → Type 0
IsGiven (a.Value value) = Unit {0}
IsGiven answer = ⊥
