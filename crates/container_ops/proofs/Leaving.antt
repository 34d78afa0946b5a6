-- What is done with lists, maps, arrays and iterators takes no object away and changes the kind of none; and what primitive types it gives.
use Rattle.std.proofs.Common.{◌≡◌, ℕ, ℤ, ◌==◌, Bool, true, false, Option, Some, None, List, [], ◌∷◌, ◌++◌, length, refl, slice_get, if◌then◌else◌}
use Rattle.std.specs.Prelude.{◌&&◌}
use Rattle.std.proofs.lemmas.Bool.{cond_both}
use Rattle.pl_types.specs.declared.primitive.Primitive.{Primitive}
use Rattle.pl_types.specs.declared.primitive.Primitive.TheVariants as prim
use Rattle.pl_types.specs.declared.classes.TheConstants.{CLASS_CAST_EXCEPTION, CONCURRENT_MODIFICATION_EXCEPTION, NEGATIVE_ARRAY_SIZE_EXCEPTION, NO_SUCH_ELEMENT_EXCEPTION, NULL_POINTER_EXCEPTION}
use Rattle.pl_types.specs.declared.ty.Ty.{Ty, out-Ty}
use Rattle.pl_types.specs.declared.ty.Ty.TheVariants as t
use Rattle.object_values.specs.declared.object.Object.{Object}
use Rattle.object_values.specs.declared.object.Object.TheVariants as o
use Rattle.object_values.specs.declared.value.Value.{Value}
use Rattle.object_values.specs.declared.value.Value.TheVariants as v
use Rattle.object_heap.specs.Effects.{Effect}
use Rattle.object_heap.specs.Effects as e
use Rattle.object_heap.specs.Fits.{has_type, is_primitive, is_type, kinds}
use Rattle.object_heap.specs.Objects.{kind_of, renewed_by, with_item}
use Rattle.object_heap.specs.Store.{Store, paid, with_change}
use Rattle.container_outcomes.specs.Equality.{value_or}
use Rattle.container_parts.specs.Containers.{changes_now, container_of}
use Rattle.container_parts.specs.Iterators as iterators
use Rattle.container_parts.specs.declared.containers.Container.{Container}
use Rattle.container_parts.specs.declared.cursors.Cursor.{Cursor}
use Rattle.container_parts.specs.declared.elements.Element.{Element}
use Rattle.container_parts.specs.declared.elements.Element.TheVariants as element
use Rattle.container_outcomes.specs.declared.outcome.Outcome.{Outcome}
use Rattle.container_outcomes.specs.declared.outcome.Outcome.TheVariants as outcome
use Rattle.container_outcomes.specs.Outcomes.{array_index_error, effect, not_simple, number_of, says}
use Rattle.container_calls.specs.Indexing as indexing
use Rattle.container_calls.specs.Lists.{place_of}
use Rattle.container_calls.specs.Laws.{EffectLeaves}
use Rattle.container_calls.specs.Types.{EffectGives}
use Rattle.container_calls.proofs.There.{paid_leaves, there_added, there_changed, there_refl, there_then, throw_leaves, kinds-changed}
use Rattle.container_ops.specs.Elements as elements
use Rattle.container_ops.specs.Loops as loops
use Rattle.container_ops.specs.Making as making
use Rattle.container_ops.specs.Types.{are_of_type, goes_with, is_read_as, on_null, on_other_kind, other_kind}

-- ---- outcomes: a value, a new object, an item that is set, or an exception

abbrev IsPlain : Outcome → Type 0
IsPlain (outcome.Gives value) = Unit {0}
IsPlain (outcome.New object) = Unit {0}
IsPlain (outcome.Sets id at item) = Unit {0}
IsPlain (outcome.Throws raised message) = Unit {0}
IsPlain told = ⊥

item_kind : (at : ℕ) (item : Value) (object : Object) → kind_of (with_item at item object) ≡ kind_of object
item_kind at item (o.List class items guard changes) = refl
item_kind at item (o.Array elem items) = refl
item_kind at item object = refl

plain_leaves : (store : Store) (told : Outcome) → IsPlain told → EffectLeaves store.objects (effect store told)
plain_leaves store (outcome.Gives value) h = there_refl store.objects
plain_leaves store (outcome.New object) h = paid_leaves store (store.objects ++ object ∷ []) 0 (λ paid. e.Gives (v.Ref (length store.objects)) paid) (λ room. there_added store.objects (object ∷ []))
plain_leaves store (outcome.Sets id at item) h = there_changed store.objects id (with_item at item) (item_kind at item)
plain_leaves store (outcome.Throws raised message) h = throw_leaves store (number_of raised) message
plain_leaves store told h = absurd h

if_plain : (test : Bool) (a b : Outcome) → IsPlain a → IsPlain b → IsPlain (if test then a else b)
if_plain true a b h k = h
if_plain false a b h k = k

refused_plain : (at : ℤ) (count : ℕ) → IsPlain (array_index_error at count)
unfolding says
refused_plain at count = tt

placed_plain : (count : ℕ) (at : ℤ) (place : Option ℕ) (next : ℕ → Outcome) → ((place : ℕ) → IsPlain (next place)) → IsPlain (indexing.at_place array_index_error count at place next)
placed_plain count at None next k = refused_plain at count
placed_plain count at (Some place) next k = k place

in_array_plain : (items : List Value) (at : ℤ) (next : ℕ → Outcome) → ((place : ℕ) → IsPlain (next place)) → IsPlain (elements.in_array items at next)
in_array_plain items at next k = placed_plain (length items) (indexing.counted (length items) at) (place_of (length items) (indexing.counted (length items) at)) next k

read_plain : (of : Ty) (at : ℤ) (found : Option Object) → IsPlain (elements.read_in of at found)
read_plain of at (Some (o.Array elem items)) =
    if_plain (goes_with of elem) (elements.in_array items at (elements.item_read of items)) other_kind
    (in_array_plain items at (elements.item_read of items)
    (λ place. if_plain (is_read_as of (value_or (slice_get items place) v.Null)) (outcome.Gives (value_or (slice_get items place) v.Null)) other_kind tt tt))
    tt
read_plain of at None = tt
read_plain of at (Some object) = tt

given_plain : (at : ℤ) (found : Option Object) → IsPlain (elements.given_in at found)
given_plain at (Some (o.Array elem items)) = in_array_plain items at (elements.item_given items) (λ place. tt)
given_plain at None = tt
given_plain at (Some object) = tt

written_plain : (objects : List Object) (of : Ty) (id : ℕ) (at : ℤ) (item : Value) (found : Option Object) → IsPlain (elements.written_in objects of id at item found)
written_plain objects of id at item (Some (o.Array elem items)) =
    if_plain (goes_with of elem) (elements.written_if_typed objects id elem items at item) other_kind
    (if_plain (has_type (kinds objects) elem item) (elements.in_array items at (elements.item_written id item)) other_kind (in_array_plain items at (elements.item_written id item) (λ place. tt)) tt)
    tt
written_plain objects of id at item None = tt
written_plain objects of id at item (Some object) = tt

length_plain : (found : Option Object) → IsPlain (elements.length_in found)
length_plain (Some (o.Array elem items)) = tt
length_plain None = tt
length_plain (Some object) = tt

not_simple_plain : IsPlain not_simple
unfolding says
not_simple_plain = tt

map_plain : (pairs : List (Value × Value)) → IsPlain (making.map_told pairs)
map_plain pairs = if_plain (making.have_simple_keys pairs) (outcome.New _) not_simple tt not_simple_plain

filled_plain : (objects : List Object) (elem : Ty) (items : List Value) → IsPlain (making.filled_told objects elem items)
filled_plain objects elem items = if_plain (is_type elem && are_of_type (kinds objects) elem items) (outcome.New (o.Array elem items)) other_kind tt tt

-- ---- forms

pub other_leaves : (store : Store) → EffectLeaves store.objects (on_other_kind store)
other_leaves store = throw_leaves store CLASS_CAST_EXCEPTION None

null_leaves : (store : Store) → EffectLeaves store.objects (on_null store)
null_leaves store = throw_leaves store NULL_POINTER_EXCEPTION None

pub list_made_leaves : (store : Store) (items : List Value) → EffectLeaves store.objects (making.list_made store items)
unfolding making.list_made
list_made_leaves store items = plain_leaves store (making.list_told items) tt

pub map_made_leaves : (store : Store) (parts : List Value) → EffectLeaves store.objects (making.map_made store parts)
unfolding making.map_made
map_made_leaves store parts = plain_leaves store (making.map_told (making.pairs_in parts)) (map_plain (making.pairs_in parts))

pub array_filled_leaves : (store : Store) (elem : Ty) (items : List Value) → EffectLeaves store.objects (making.array_filled store elem items)
unfolding making.array_filled
array_filled_leaves store elem items = plain_leaves store (making.filled_told store.objects elem items) (filled_plain store.objects elem items)

pub element_read_leaves : (store : Store) (of : Ty) (array : Value) (at : ℤ) → EffectLeaves store.objects (elements.element_read store of array at)
unfolding elements.element_read
element_read_leaves store of v.Null at = null_leaves store
element_read_leaves store of (v.Ref id) at = plain_leaves store (elements.read_in of at (slice_get store.objects id)) (read_plain of at (slice_get store.objects id))
element_read_leaves store of value at = other_leaves store

pub element_given_leaves : (store : Store) (array : Value) (at : ℤ) → EffectLeaves store.objects (elements.element_given store array at)
unfolding elements.element_given
element_given_leaves store v.Null at = null_leaves store
element_given_leaves store (v.Ref id) at = plain_leaves store (elements.given_in at (slice_get store.objects id)) (given_plain at (slice_get store.objects id))
element_given_leaves store value at = other_leaves store

pub element_written_leaves : (store : Store) (of : Ty) (array : Value) (at : ℤ) (item : Value) → EffectLeaves store.objects (elements.element_written store of array at item)
unfolding elements.element_written
element_written_leaves store of v.Null at item = null_leaves store
element_written_leaves store of (v.Ref id) at item =
    plain_leaves store (elements.written_in store.objects of id at item (slice_get store.objects id)) (written_plain store.objects of id at item (slice_get store.objects id))
element_written_leaves store of value at item = other_leaves store

pub length_of_leaves : (store : Store) (value : Value) → EffectLeaves store.objects (elements.length_of store value)
unfolding elements.length_of
length_of_leaves store v.Null = null_leaves store
length_of_leaves store (v.Ref id) = plain_leaves store (elements.length_in (slice_get store.objects id)) (length_plain (slice_get store.objects id))
length_of_leaves store value = other_leaves store

arrays_made_leaves : (store : Store) (of : Ty) (sizes : List ℕ) → EffectLeaves store.objects (making.arrays_made store of sizes)
arrays_made_leaves store of sizes =
    paid_leaves store (store.objects ++ making.arrays_of of sizes (length store.objects)) 0 (λ paid. e.Gives (v.Ref (length store.objects)) paid)
    (λ room. there_added store.objects (making.arrays_of of sizes (length store.objects)))

made_if_leaves : (store : Store) (of : Ty) (sizes : List ℤ) (found : Option ℤ) → EffectLeaves store.objects (making.array_made_if store of sizes found)
made_if_leaves store of sizes (Some size) = throw_leaves store NEGATIVE_ARRAY_SIZE_EXCEPTION _
made_if_leaves store of sizes None = arrays_made_leaves store of (making.lengths_given sizes)

pub array_made_leaves : (store : Store) (of : Ty) (sizes : List ℤ) → EffectLeaves store.objects (making.array_made store of sizes)
unfolding making.array_made
array_made_leaves store of sizes =
    cond_both (is_type of && making.takes_sizes of (length sizes)) (making.array_made_if store of sizes (making.first_negative sizes)) (on_other_kind store) (EffectLeaves store.objects)
    (λ _. made_if_leaves store of sizes (making.first_negative sizes)) (λ _. other_leaves store)

-- ---- iterators

iterated_if_leaves : (store : Store) (id : ℕ) (over : Option Container) → EffectLeaves store.objects (loops.iterated_if store id over)
iterated_if_leaves store id None = other_leaves store
iterated_if_leaves store id (Some over) =
    paid_leaves store (store.objects ++ o.Iter id 0 (changes_now store.objects over) None ∷ []) 0 (λ paid. e.Gives (v.Ref (length store.objects)) paid)
    (λ room. there_added store.objects (o.Iter id 0 (changes_now store.objects over) None ∷ []))

pub iterated_leaves : (store : Store) (value : Value) → EffectLeaves store.objects (loops.iterated store value)
unfolding loops.iterated
iterated_leaves store v.Null = null_leaves store
iterated_leaves store (v.Ref id) = iterated_if_leaves store id (container_of store.objects id)
iterated_leaves store value = other_leaves store

has_more_if_leaves : (store : Store) (found : Option Cursor) → EffectLeaves store.objects (loops.has_more_if store found)
has_more_if_leaves store None = other_leaves store
has_more_if_leaves store (Some it) = there_refl store.objects

pub has_more_leaves : (store : Store) (value : Value) → EffectLeaves store.objects (loops.has_more store value)
unfolding loops.has_more
has_more_leaves store v.Null = null_leaves store
has_more_leaves store (v.Ref id) = has_more_if_leaves store (iterators.iterator_of store.objects id)
has_more_leaves store value = other_leaves store

iterator_kind : (over cursor seen : ℕ) (last : Option ℕ) (object : Object) → kind_of (renewed_by (o.Iter over cursor seen last) object) ≡ kind_of object
iterator_kind over cursor seen last (o.List class items guard changes) = refl
iterator_kind over cursor seen last (o.Map class pairs guard changes) = refl
iterator_kind over cursor seen last (o.Set class items guard changes) = refl
iterator_kind over cursor seen last (o.Array elem items) = refl
iterator_kind over cursor seen last (o.View map part) = refl
iterator_kind over cursor seen last (o.Entry map key) = refl
iterator_kind over cursor seen last (o.Iter a b c d) = refl
iterator_kind over cursor seen last (o.Builder units) = refl
iterator_kind over cursor seen last (o.Fun iface target captures) = refl
iterator_kind over cursor seen last (o.Exc class message) = refl

moved_kind : (it : Cursor) (object : Object) → kind_of (renewed_by (iterators.moved it) object) ≡ kind_of object
moved_kind it object = iterator_kind _ _ _ _ object

given_leaves : (store : Store) (id : ℕ) (it : Cursor) (found : Option Element) → EffectLeaves store.objects (iterators.given store id it found)
given_leaves store id it None = throw_leaves store CONCURRENT_MODIFICATION_EXCEPTION None
given_leaves store id it (Some (element.There value)) = there_changed store.objects id (renewed_by (iterators.moved it)) (moved_kind it)
given_leaves store id it (Some (element.Entry map key)) =
    let all = store.objects ++ o.Entry map key ∷ [] in
    paid_leaves store all 0 (λ paid. e.Gives (v.Ref (length store.objects)) (iterators.with_iterator paid id (iterators.moved it)))
    (λ room. there_then store.objects all (with_change all id (renewed_by (iterators.moved it))) (there_added store.objects (o.Entry map key ∷ [])) (kinds-changed all id (renewed_by (iterators.moved it)) (moved_kind it)))

if_leaves : (store : Store) (test : Bool) (a b : Effect) → EffectLeaves store.objects a → EffectLeaves store.objects b → EffectLeaves store.objects (if test then a else b)
if_leaves store true a b h k = h
if_leaves store false a b h k = k

next_over_leaves : (store : Store) (id : ℕ) (it : Cursor) (over : Option Container) → EffectLeaves store.objects (iterators.next_over store id it over)
next_over_leaves store id it over =
    if_leaves store (it.cursor == iterators.count_over store.objects over) (iterators.fails store NO_SUCH_ELEMENT_EXCEPTION) _ (throw_leaves store NO_SUCH_ELEMENT_EXCEPTION None)
    (if_leaves store (it.seen == iterators.changes_over store.objects over) (iterators.given store id it (iterators.element_over store.objects over it.cursor))
    (iterators.fails store CONCURRENT_MODIFICATION_EXCEPTION) (given_leaves store id it (iterators.element_over store.objects over it.cursor)) (throw_leaves store CONCURRENT_MODIFICATION_EXCEPTION None))

next_if_leaves : (store : Store) (id : ℕ) (found : Option Cursor) → EffectLeaves store.objects (loops.next_if store id found)
next_if_leaves store id None = other_leaves store
next_if_leaves store id (Some it) = next_over_leaves store id it (container_of store.objects it.over)

pub next_element_leaves : (store : Store) (value : Value) → EffectLeaves store.objects (loops.next_element store value)
unfolding loops.next_element
next_element_leaves store v.Null = null_leaves store
next_element_leaves store (v.Ref id) = next_if_leaves store id (iterators.iterator_of store.objects id)
next_element_leaves store value = other_leaves store

-- ---- primitive types

-- what gives a value gives one of a primitive type
abbrev GivesOf : Primitive → Outcome → Type 0
GivesOf p (outcome.Gives value) = is_primitive p value ≡ true
GivesOf p (outcome.Throws raised message) = Unit {0}
GivesOf p told = ⊥

paid_throws : (p : Primitive) (store : Store) (class : ℕ) (message : Option (List ℕ)) → EffectGives (Some p) (e.throws store class message)
paid_throws p store class message = paid_gives (paid store (store.objects ++ o.Exc class message ∷ []) 0)
  where
    paid_gives : (found : Option Store) → EffectGives (Some p) (e.after_paying found (λ paid. e.Throws (length store.objects) paid))
    paid_gives None = tt
    paid_gives (Some left) = tt

told_gives : (p : Primitive) (store : Store) (told : Outcome) → GivesOf p told → EffectGives (Some p) (effect store told)
told_gives p store (outcome.Gives value) h = h
told_gives p store (outcome.Throws raised message) h = paid_throws p store (number_of raised) message
told_gives p store told h = absurd h

if_gives : (p : Primitive) (test : Bool) (a b : Outcome) → GivesOf p a → GivesOf p b → GivesOf p (if test then a else b)
if_gives p true a b h k = h
if_gives p false a b h k = k

refused_gives : (p : Primitive) (at : ℤ) (count : ℕ) → GivesOf p (array_index_error at count)
unfolding says
refused_gives p at count = tt

placed_gives : (p : Primitive) (count : ℕ) (at : ℤ) (place : Option ℕ) (next : ℕ → Outcome) → ((place : ℕ) → GivesOf p (next place)) → GivesOf p (indexing.at_place array_index_error count at place next)
placed_gives p count at None next k = refused_gives p at count
placed_gives p count at (Some place) next k = k place

item_gives : (p : Primitive) (items : List Value) (place : ℕ) → GivesOf p (elements.item_read (t.Prim p) items place)
unfolding out-Ty denote.Hole.Carrier.out
item_gives p items place =
    let value = value_or (slice_get items place) v.Null in
    cond_both (is_primitive p value) (outcome.Gives value) other_kind (GivesOf p) (λ is. is) (λ _. tt)

read_gives : (p : Primitive) (at : ℤ) (found : Option Object) → GivesOf p (elements.read_in (t.Prim p) at found)
read_gives p at (Some (o.Array elem items)) =
    if_gives p (goes_with (t.Prim p) elem) (elements.in_array items at (elements.item_read (t.Prim p) items)) other_kind
    (placed_gives p (length items) (indexing.counted (length items) at) (place_of (length items) (indexing.counted (length items) at)) (elements.item_read (t.Prim p) items) (item_gives p items))
    tt
read_gives p at None = tt
read_gives p at (Some object) = tt

pub element_read_gives : (store : Store) (p : Primitive) (array : Value) (at : ℤ) → EffectGives (Some p) (elements.element_read store (t.Prim p) array at)
unfolding elements.element_read
element_read_gives store p v.Null at = paid_throws p store NULL_POINTER_EXCEPTION None
element_read_gives store p (v.Ref id) at = told_gives p store (elements.read_in (t.Prim p) at (slice_get store.objects id)) (read_gives p at (slice_get store.objects id))
element_read_gives store p value at = paid_throws p store CLASS_CAST_EXCEPTION None

length_gives : (found : Option Object) → GivesOf prim.Int (elements.length_in found)
length_gives (Some (o.Array elem items)) = refl
length_gives None = tt
length_gives (Some object) = tt

pub length_of_gives : (store : Store) (value : Value) → EffectGives (Some prim.Int) (elements.length_of store value)
unfolding elements.length_of
length_of_gives store v.Null = paid_throws prim.Int store NULL_POINTER_EXCEPTION None
length_of_gives store (v.Ref id) = told_gives prim.Int store (elements.length_in (slice_get store.objects id)) (length_gives (slice_get store.objects id))
length_of_gives store value = paid_throws prim.Int store CLASS_CAST_EXCEPTION None

has_more_if_gives : (store : Store) (found : Option Cursor) → EffectGives (Some prim.Boolean) (loops.has_more_if store found)
has_more_if_gives store None = paid_throws prim.Boolean store CLASS_CAST_EXCEPTION None
has_more_if_gives store (Some it) = refl

pub has_more_gives : (store : Store) (value : Value) → EffectGives (Some prim.Boolean) (loops.has_more store value)
unfolding loops.has_more
has_more_gives store v.Null = paid_throws prim.Boolean store NULL_POINTER_EXCEPTION None
has_more_gives store (v.Ref id) = has_more_if_gives store (iterators.iterator_of store.objects id)
has_more_gives store value = paid_throws prim.Boolean store CLASS_CAST_EXCEPTION None
