-- What the language itself makes of lists, maps, arrays and iterators, and reads of arrays, is of its type.
use Rattle.std.proofs.Common.{◌≡◌, ℕ, ◌+◌, ◌≤◌, ◌&&◌, Bool, true, false, Option, Some, None, List, [], ◌∷◌, ◌++◌, length, refl, sym, ap, ◌∙◌, subst, slice_get, arith}
use Rattle.std.specs.Prelude.{ℤ, nat_lt, nat_le, if◌then◌else◌}
use Rattle.std.proofs.lemmas.Bool.{and_parts, leb-true}
use Rattle.pl_types.specs.declared.classes.TheConstants.{ARRAY_LIST, HASH_MAP, ITERATOR, NEGATIVE_ARRAY_SIZE_EXCEPTION}
use Rattle.pl_types.specs.declared.primitive.Primitive.{Primitive}
use Rattle.pl_types.specs.declared.primitive.Primitive.TheVariants as prim
use Rattle.pl_types.specs.declared.ty.Ty.{Ty, out-Ty}
use Rattle.pl_types.specs.declared.ty.Ty.TheFolds.{fold_out-Ty, map-Ty}
use Rattle.pl_types.specs.declared.ty.Ty.TheOpen.{Ty-F}
use Rattle.pl_types.specs.declared.ty.Ty.TheVariants as ty
use Rattle.object_values.specs.declared.object.Guard.TheVariants as g
use Rattle.object_values.specs.declared.object.Object.{Object}
use Rattle.object_values.specs.declared.object.Object.TheVariants as o
use Rattle.object_values.specs.declared.value.Value.{Value}
use Rattle.object_values.specs.declared.value.Value.TheVariants as v
use Rattle.object_values.specs.Pairs.{with_pairs}
use Rattle.object_heap.specs.Effects.{Effect, Gives}
use Rattle.object_heap.specs.Fits.{kinds, passes, is_array_of, is_primitive, is_type, Rules, Fits, layer_asked}
use Rattle.object_heap.specs.Objects.{Kind, AList, AMap, AnArray}
use Rattle.object_heap.specs.Parts.{asked, object_items, items_of}
use Rattle.object_heap.specs.Store.{Store}
use Rattle.object_heap.proofs.Fitting.{length-kinds}
use Rattle.object_heap.proofs.TypeLemmas.{types_refl}
use Rattle.value_walks.specs.Equality.{value_or}
use Rattle.container_outcomes.specs.declared.outcome.Outcome.TheVariants as outcome
use Rattle.container_outcomes.specs.declared.outcome.Raised.TheVariants as raised
use Rattle.container_outcomes.specs.Outcomes.{effect, number_of, array_index_error, not_simple, says}
use Rattle.api_map.specs.container_parts_declared.containers.Container.{Container}
use Rattle.api_map.specs.container_parts_declared.cursors.Cursor.{Cursor}
use Rattle.api_map.specs.Containers.{container_of}
use Rattle.api_map.specs.Iterators.{iterator_of}
use Rattle.api_list.specs.Indexing.{at_place, counted}
use Rattle.api_list.specs.Lists.{place_of}
use Rattle.container_calls.proofs.There.{kinds-added}
use Rattle.run_fit.specs.Elements.{in_array, item_read, read_in, element_read, length_in, length_of}
use Rattle.run_fit.specs.Loops.{iterated_if, iterated, has_more_if, has_more}
use Rattle.run_fit.specs.Making.{list_made, have_simple_keys, map_made, pairs_in, array_filled, first_negative, lengths_given, level_of, arrays_from, arrays_of, takes_sizes, array_made_if, array_made}
use Rattle.run_fit.specs.Types.{dimensions_layer, dimensions_of, element_layer, element_of, are_of_type, goes_with, read_as_layer, other_kind, on_null, on_other_kind}
use Rattle.value_typing.specs.Typing.{is_typed_layer, is_typed}
use Rattle.value_typing.specs.Laws.{ContainersGiveTypes}
use Rattle.value_typing.proofs.Effects.{EffectTyped, in_world, thrown_typed}
use Rattle.value_typing.proofs.Elements.{elements_are_typed}
use Rattle.value_typing.proofs.MemberContainers.{OutcomeTyped, settled, new_of, not_simple_typed, over_typed}
use Rattle.value_typing.proofs.MemberTexts.{new_array_of, new_typed, paid_typed}

-- ---- what is thrown

null_typed : (l : Ty-F Ty) (store : Store) → EffectTyped l (on_null store)
null_typed l store = thrown_typed l store (number_of raised.NullPointer) None

other_typed : (l : Ty-F Ty) (store : Store) → EffectTyped l (on_other_kind store)
other_typed l store = thrown_typed l store (number_of raised.ClassCast) None

refused_typed : (l : Ty-F Ty) (store : Store) (at : ℤ) (count : ℕ) → EffectTyped l (effect store (array_index_error at count))
unfolding says
refused_typed l store at count = thrown_typed l store (number_of raised.ArrayIndexOutOfBounds) _

-- ---- literals

list_typed : (store : Store) (items : List Value) → EffectTyped (out-Ty (ty.Class ARRAY_LIST)) (list_made store items)
unfolding list_made
list_typed store items = new_typed (out-Ty (ty.Class ARRAY_LIST)) store (o.List ARRAY_LIST items g.Open 0) 0 (new_of ARRAY_LIST (AList ARRAY_LIST) refl)

map_typed : (store : Store) (parts : List Value) → EffectTyped (out-Ty (ty.Class HASH_MAP)) (map_made store parts)
unfolding map_made
map_typed store parts = settled (ty.Class HASH_MAP) store _ (either (have_simple_keys (pairs_in parts)))
  where
    either : (simple : Bool) → OutcomeTyped store.objects (ty.Class HASH_MAP) (if simple then outcome.New (o.Map HASH_MAP (with_pairs [] (pairs_in parts)) g.Open 0) else not_simple)
    either true = new_of HASH_MAP (AMap HASH_MAP) refl
    either false = not_simple_typed store.objects (ty.Class HASH_MAP)

filled_typed : (store : Store) (elem : Ty) (items : List Value) → EffectTyped (out-Ty (ty.Array elem)) (array_filled store elem items)
unfolding array_filled
filled_typed store elem items = settled (ty.Array elem) store _ (either (is_type elem && are_of_type (kinds store.objects) elem items))
  where
    either : (fits : Bool) → OutcomeTyped store.objects (ty.Array elem) (if fits then outcome.New (o.Array elem items) else other_kind)
    either true = new_array_of elem
    either false = tt

-- ---- arrays with sizes: the first of those that are made is the one that is given

at_front : (ks more : List Kind) (kind : Kind) → slice_get (ks ++ kind ∷ more) (length ks) ≡ Some kind
at_front [] more kind = refl
at_front (x ∷ ks) more kind = at_front ks more kind

record BeginsWith (elem : Ty) (objects : List Object) : Type 0 where
  items : List Value
  others : List Object
  is : objects ≡ o.Array elem items ∷ others

level_begins : (elem : Ty) (size : ℕ) (sizes : List ℕ) (first : ℕ) → BeginsWith elem (level_of elem 1 size sizes first)
level_begins elem size [] first = record { items = _; others = []; is = refl }
level_begins elem size (next ∷ sizes) first = record { items = _; others = []; is = refl }

more_behind : (elem : Ty) (objects more : List Object) → BeginsWith elem objects → BeginsWith elem (objects ++ more)
more_behind elem objects more b = record { items = b.items; others = b.others ++ more; is = ap (λ (objects : List Object). objects ++ more) b.is }

arrays_begin : (elem : Ty) (size : ℕ) (sizes : List ℕ) (first : ℕ) → BeginsWith elem (arrays_from elem 1 (size ∷ sizes) first)
arrays_begin elem size sizes first = more_behind elem (level_of elem 1 size sizes (first + 1)) _ (level_begins elem size sizes (first + 1))

-- a type with a `[]` is of an array of its element type
sized_layer : (ks : List Kind) (n : ℕ) (of : Ty) (l : Ty-F Ty) → 1 ≤ dimensions_layer (map-Ty Ty ℕ dimensions_of l) → passes (is_array_of (element_layer of l)) (slice_get ks n) ≡ true
    → is_typed_layer ks l (v.Ref n) ≡ true
sized_layer ks n of Ty-F.Void d h = refl
sized_layer ks n of Ty-F.Null d h = absurd (omega (arith, d))
sized_layer ks n of Ty-F.Def d h = refl
sized_layer ks n of (Ty-F.Prim p) d h = absurd (omega (arith, d))
sized_layer ks n of (Ty-F.Class class) d h = absurd (omega (arith, d))
sized_layer ks n of (Ty-F.Array elem) d h = h

first_typed : (of : Ty) (objects made : List Object) → 1 ≤ dimensions_of of → BeginsWith (element_of of) made → is_typed_layer (kinds (objects ++ made)) (out-Ty of) (v.Ref (length objects)) ≡ true
first_typed of objects made d b =
    let there : slice_get (kinds (objects ++ made)) (length objects) ≡ Some (AnArray (element_of of)) =
    ap (λ (made : List Object). slice_get (kinds (objects ++ made)) (length objects)) b.is
    ∙ ap (λ (ks : List Kind). slice_get ks (length objects)) (kinds-added objects (o.Array (element_of of) b.items ∷ b.others))
    ∙ ap (λ (n : ℕ). slice_get (kinds objects ++ AnArray (element_of of) ∷ kinds b.others) n) (sym (length-kinds objects))
    ∙ at_front (kinds objects) (kinds b.others) (AnArray (element_of of)) in
    sized_layer (kinds (objects ++ made)) (length objects) of (out-Ty of) (subst (λ (n : ℕ). 1 ≤ n) (fold_out-Ty ℕ dimensions_layer of) d)
    (subst (λ (found : Option Kind). passes (is_array_of (element_of of)) found ≡ true) (sym there) (types_refl (element_of of)))

arrays_typed : (store : Store) (of : Ty) (size : ℤ) (sizes : List ℤ) (negative : Option ℤ) → 1 ≤ dimensions_of of → EffectTyped (out-Ty of) (array_made_if store of (size ∷ sizes) negative)
arrays_typed store of size sizes (Some negative) d = thrown_typed (out-Ty of) store NEGATIVE_ARRAY_SIZE_EXCEPTION _
arrays_typed store of size sizes None d =
    paid_typed (out-Ty of) store (store.objects ++ arrays_of of (lengths_given (size ∷ sizes)) (length store.objects)) 0 (λ paid. Gives (v.Ref (length store.objects)) paid) (λ room.
    first_typed of store.objects (arrays_of of (lengths_given (size ∷ sizes)) (length store.objects)) d (arrays_begin (element_of of) _ (lengths_given sizes) (length store.objects)))

sized_typed : (store : Store) (of : Ty) (sizes : List ℤ) → takes_sizes of (length sizes) ≡ true → EffectTyped (out-Ty of) (array_made_if store of sizes (first_negative sizes))
sized_typed store of [] h = cc
sized_typed store of (size ∷ sizes) h =
    let fits = leb-true (length (size ∷ sizes)) (dimensions_of of) (and_parts (nat_lt 0 (length (size ∷ sizes))) (nat_le (length (size ∷ sizes)) (dimensions_of of)) h).1 in
    arrays_typed store of size sizes (first_negative (size ∷ sizes)) (omega (arith, fits))

array_typed : (store : Store) (of : Ty) (sizes : List ℤ) → EffectTyped (out-Ty of) (array_made store of sizes)
unfolding array_made
array_typed store of sizes = either (is_type of) (takes_sizes of (length sizes)) refl
  where
    either : (is takes : Bool) → takes_sizes of (length sizes) ≡ takes → EffectTyped (out-Ty of) (if is && takes then array_made_if store of sizes (first_negative sizes) else on_other_kind store)
    either true true h = sized_typed store of sizes h
    either true false h = other_typed (out-Ty of) store
    either false takes h = other_typed (out-Ty of) store

-- ---- elements

given_typed : (l : Ty-F Ty) (store : Store) (value : Value) → is_typed_layer (kinds store.objects) l value ≡ true
    → EffectTyped l (effect store (if read_as_layer l value then outcome.Gives value else other_kind))
given_typed l store value h = either (read_as_layer l value)
  where
    either : (read : Bool) → EffectTyped l (effect store (if read then outcome.Gives value else other_kind))
    either true = h
    either false = other_typed l store

-- where nothing stands
none_primitive : (p : Primitive) (store : Store) → EffectTyped (Ty-F.Prim p) (effect store (if is_primitive p v.Null then outcome.Gives v.Null else other_kind))
none_primitive prim.Boolean store = other_typed (Ty-F.Prim prim.Boolean) store
none_primitive prim.Byte store = other_typed (Ty-F.Prim prim.Byte) store
none_primitive prim.Short store = other_typed (Ty-F.Prim prim.Short) store
none_primitive prim.Char store = other_typed (Ty-F.Prim prim.Char) store
none_primitive prim.Int store = other_typed (Ty-F.Prim prim.Int) store
none_primitive prim.Long store = other_typed (Ty-F.Prim prim.Long) store

none_typed : (l : Ty-F Ty) (store : Store) → EffectTyped l (effect store (if read_as_layer l v.Null then outcome.Gives v.Null else other_kind))
none_typed Ty-F.Void store = refl
none_typed Ty-F.Null store = refl
none_typed Ty-F.Def store = refl
none_typed (Ty-F.Prim p) store = none_primitive p store
none_typed (Ty-F.Class class) store = refl
none_typed (Ty-F.Array elem) store = refl

module _ (rules : Rules) (store : Store) (of : Ty) (f : Fits rules store.objects) (asks : layer_asked rules.typed (out-Ty of) ≡ true) where
  item_typed : (id place : ℕ) (items : List Value) (found : Option Value) → is_typed store.objects (ty.Array of) (v.Ref id) ≡ true → items_of store.objects id ≡ items → slice_get items place ≡ found
      → EffectTyped (out-Ty of) (effect store (if read_as_layer (out-Ty of) (value_or found v.Null) then outcome.Gives (value_or found v.Null) else other_kind))
  item_typed id place items None h is e = none_typed (out-Ty of) store
  item_typed id place items (Some value) h is e =
      given_typed (out-Ty of) store value (elements_are_typed rules store.objects id place of value f asks h (ap (λ (items : List Value). slice_get items place) is ∙ e))

  placed_typed : (id count : ℕ) (at : ℤ) (place : Option ℕ) (items : List Value) → is_typed store.objects (ty.Array of) (v.Ref id) ≡ true → items_of store.objects id ≡ items
      → EffectTyped (out-Ty of) (effect store (at_place array_index_error count at place (item_read of items)))
  placed_typed id count at None items h is = refused_typed (out-Ty of) store at count
  placed_typed id count at (Some place) items h is = item_typed id place items (slice_get items place) h is refl

  array_read_typed : (id : ℕ) (at : ℤ) (found : Option Object) → is_typed store.objects (ty.Array of) (v.Ref id) ≡ true → slice_get store.objects id ≡ found
      → EffectTyped (out-Ty of) (effect store (read_in of at found))
  array_read_typed id at (Some (o.Array elem items)) h e = either (goes_with of elem)
    where
      either : (goes : Bool) → EffectTyped (out-Ty of) (effect store (if goes then in_array items at (item_read of items) else other_kind))
      either true =
          placed_typed id (length items) (counted (length items) at) (place_of (length items) (counted (length items) at)) items h (ap (λ (found : Option Object). asked object_items [] found) e)
      either false = other_typed (out-Ty of) store
  array_read_typed id at found h e = other_typed (out-Ty of) store

  read_typed : (array : Value) (at : ℤ) → is_typed store.objects (ty.Array of) array ≡ true → EffectTyped (out-Ty of) (element_read store of array at)
  unfolding element_read
  read_typed v.Null at h = null_typed (out-Ty of) store
  read_typed (v.Ref id) at h = array_read_typed id at (slice_get store.objects id) h refl
  read_typed value at h = other_typed (out-Ty of) store

-- ---- lengths and iterators

as_int : (x : Effect) → EffectTyped (Ty-F.Prim prim.Int) x → EffectTyped (out-Ty (ty.Prim prim.Int)) x
unfolding out-Ty denote.Hole.Carrier.out
as_int x h = h

as_boolean : (x : Effect) → EffectTyped (Ty-F.Prim prim.Boolean) x → EffectTyped (out-Ty (ty.Prim prim.Boolean)) x
unfolding out-Ty denote.Hole.Carrier.out
as_boolean x h = h

length_in_typed : (store : Store) (found : Option Object) → EffectTyped (Ty-F.Prim prim.Int) (effect store (length_in found))
length_in_typed store (Some (o.Array elem items)) = refl
length_in_typed store found = other_typed (Ty-F.Prim prim.Int) store

length_typed : (store : Store) (array : Value) → EffectTyped (Ty-F.Prim prim.Int) (length_of store array)
unfolding length_of
length_typed store v.Null = null_typed (Ty-F.Prim prim.Int) store
length_typed store (v.Ref id) = length_in_typed store (slice_get store.objects id)
length_typed store value = other_typed (Ty-F.Prim prim.Int) store

more_if_typed : (store : Store) (it : Option Cursor) → EffectTyped (Ty-F.Prim prim.Boolean) (has_more_if store it)
more_if_typed store None = other_typed (Ty-F.Prim prim.Boolean) store
more_if_typed store (Some it) = refl

more_typed : (store : Store) (iterator : Value) → EffectTyped (Ty-F.Prim prim.Boolean) (has_more store iterator)
unfolding has_more
more_typed store v.Null = null_typed (Ty-F.Prim prim.Boolean) store
more_typed store (v.Ref id) = more_if_typed store (iterator_of store.objects id)
more_typed store value = other_typed (Ty-F.Prim prim.Boolean) store

iterated_if_typed : (store : Store) (id : ℕ) (over : Option Container) → EffectTyped (out-Ty (ty.Class ITERATOR)) (iterated_if store id over)
iterated_if_typed store id None = other_typed (out-Ty (ty.Class ITERATOR)) store
iterated_if_typed store id (Some over) = over_typed store id (Some over)

iterated_typed : (store : Store) (value : Value) → EffectTyped (out-Ty (ty.Class ITERATOR)) (iterated store value)
unfolding iterated
iterated_typed store v.Null = null_typed (out-Ty (ty.Class ITERATOR)) store
iterated_typed store (v.Ref id) = iterated_if_typed store id (container_of store.objects id)
iterated_typed store value = other_typed (out-Ty (ty.Class ITERATOR)) store

-- ---- the law

pub containers_give_types : ContainersGiveTypes
containers_give_types = record {
  lists = λ w items. in_world (ty.Class ARRAY_LIST) w (list_made w.store items) (list_typed w.store items);
  maps = λ w parts. in_world (ty.Class HASH_MAP) w (map_made w.store parts) (map_typed w.store parts);
  arrays = λ w of sizes. in_world of w (array_made w.store of sizes) (array_typed w.store of sizes);
  filled = λ w elem items. in_world (ty.Array elem) w (array_filled w.store elem items) (filled_typed w.store elem items);
  elements = λ rules w of array at f asks h. in_world of w (element_read w.store of array at) (read_typed rules w.store of f asks array at h);
  lengths = λ w array. in_world (ty.Prim prim.Int) w (length_of w.store array) (as_int (length_of w.store array) (length_typed w.store array));
  iterators = λ w value. in_world (ty.Class ITERATOR) w (iterated w.store value) (iterated_typed w.store value);
  more = λ w iterator. in_world (ty.Prim prim.Boolean) w (has_more w.store iterator) (as_boolean (has_more w.store iterator) (more_typed w.store iterator));
}
