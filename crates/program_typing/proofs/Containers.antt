-- What lists, maps, arrays and iterators give is of the type that it should be.
use Rattle.std.proofs.Common.{◌≡◌, ℕ, ◌≤◌, Bool, true, false, List, [], ◌∷◌, ◌++◌, length, Option, Some, None, refl, sym, ap, ◌∙◌, subst, arith}
use Rattle.std.specs.Prelude.{ℤ, option_map, slice_get, if◌then◌else◌}
use Rattle.pl_types.specs.declared.primitive.Primitive.TheVariants as prim
use Rattle.pl_types.specs.declared.ty.Ty.{Ty, out-Ty}
use Rattle.pl_types.specs.declared.ty.Ty.TheVariants as t
use Rattle.pl_types.specs.declared.ty.Ty.TheOpen.{Ty-F}
use Rattle.pl_types.specs.declared.ty.Ty.TheFolds.{fold_out-Ty, map-Ty}
use Rattle.pl_types.specs.declared.ty.Ty.TheViews.{outs-Array}
use Rattle.object_values.specs.declared.object.Object.{Object}
use Rattle.object_values.specs.declared.object.Object.TheVariants as o
use Rattle.object_values.specs.declared.value.Value.{Value}
use Rattle.object_values.specs.declared.value.Value.TheVariants as v
use Rattle.object_heap.specs.Effects.{Effect}
use Rattle.object_heap.specs.Fits.{is_primitive}
use Rattle.object_heap.specs.Store.{Store}
use Rattle.value_walks.specs.Equality.{value_or}
use Rattle.container_outcomes.specs.declared.outcome.Outcome.TheVariants as outcome
use Rattle.container_outcomes.specs.declared.outcome.Raised.{Raised}
use Rattle.container_outcomes.specs.declared.outcome.Raised.TheVariants as raised
use Rattle.container_outcomes.specs.Outcomes.{effect, number_of, says, array_index_error, index_message}
use Rattle.source_meaning.specs.container_parts_declared.cursors.Cursor.{Cursor}
use Rattle.source_meaning.specs.Iterators.{is_before_end, iterator_of}
use Rattle.source_meaning.specs.Indexing.{counted, at_place}
use Rattle.source_meaning.specs.Lists.{place_of}
use Rattle.source_meaning.specs.Types.{dimensions_layer, dimensions_of, element_layer, element_of, goes_with, read_as_layer, other_kind, on_null, on_other_kind}
use Rattle.source_meaning.specs.Making.{list_made, map_made, array_filled, array_made}
use Rattle.source_meaning.specs.Elements.{in_array, item_read, read_in, element_read, length_in, length_of}
use Rattle.source_meaning.specs.Loops.{iterated, has_more_if, has_more, next_element}
use Rattle.typed_tree.specs.declared.operation.Operator.{Operator}
use Rattle.typed_tree.specs.declared.operation.Operator.TheVariants as operator
use Rattle.source_meaning.specs.Operating.{passed, passed_alike, ints_of, made_of, filled_of, read_at, written_if, written_at, of_one_value, operates_to}
use Rattle.program_typing.specs.Types.{Has, HaveAll, is_reference_layer, IsReference, AreAll, TakesSizes, Holds, TakesElement, TakesArray, TakesReference, Takes, TakesTo}
use Rattle.program_typing.proofs.Defs.{def_effect}
use Rattle.program_typing.proofs.Effects.{LayerHas, EffectHas, OperatedHas, IsActs, thrown_has, made}
use Rattle.program_typing.proofs.Members.{IsThere, passed_there, both_there, of_primitive}
use Rattle.program_typing.proofs.Operations.{takes_fit}
use Rattle.program_typing.proofs.Values.{has_flag, has_int, is_int, reference_has, class_has}

-- ---- where every value is of a type

reference_effect : (of : Ty) (x : Effect) → IsReference of → EffectHas of x
reference_effect of x r = made (out-Ty of) x (λ value. reference_has (out-Ty of) value r)

class_effect : (of : Ty) (class : ℕ) (x : Effect) → of ≡ t.Class class → EffectHas of x
class_effect of class x is = made (out-Ty of) x (λ value. subst (λ of. Has of value) (sym is) (class_has class value))

array_has : (elem : Ty) (value : Value) → Has (t.Array elem) value
unfolding out-Ty denote.Hole.Carrier.out
array_has elem value = tt

array_effect : (of elem : Ty) (x : Effect) → of ≡ t.Array elem → EffectHas of x
array_effect of elem x is = made (out-Ty of) x (λ value. subst (λ of. Has of value) (sym is) (array_has elem value))

-- ---- what is thrown is of every type

raised_has : (l : Ty-F Ty) (store : Store) (raised : Raised) (message : Option (List ℕ)) → LayerHas l (effect store (outcome.Throws raised message))
raised_has l store raised message = thrown_has l store (number_of raised) message

says_has : (l : Ty-F Ty) (store : Store) (raised : Raised) (message : List ℕ) → LayerHas l (effect store (says raised message))
unfolding says
says_has l store raised message = raised_has l store raised _

null_has : (l : Ty-F Ty) (store : Store) → LayerHas l (on_null store)
null_has l store = raised_has l store raised.NullPointer None

other_has : (l : Ty-F Ty) (store : Store) → LayerHas l (on_other_kind store)
other_has l store = raised_has l store raised.ClassCast None

-- ---- elements

as_read_has : (l : Ty-F Ty) (store : Store) (value : Value) → LayerHas l (effect store (if read_as_layer l value then outcome.Gives value else other_kind))
as_read_has Ty-F.Void store value = tt
as_read_has Ty-F.Null store value = tt
as_read_has Ty-F.Def store value = tt
as_read_has (Ty-F.Prim p) store value = either (is_primitive p value) refl
  where
    either : (c : Bool) → is_primitive p value ≡ c → LayerHas (Ty-F.Prim p) (effect store (if c then outcome.Gives value else other_kind))
    either true h = of_primitive p value h
    either false h = other_has (Ty-F.Prim p) store
as_read_has (Ty-F.Class class) store value = tt
as_read_has (Ty-F.Array elem) store value = tt

placed_has : (of : Ty) (store : Store) (items : List Value) (count : ℕ) (at : ℤ) (place : Option ℕ) → EffectHas of (effect store (at_place array_index_error count at place (item_read of items)))
placed_has of store items count at None = says_has (out-Ty of) store raised.ArrayIndexOutOfBounds (index_message at count)
placed_has of store items count at (Some place) = as_read_has (out-Ty of) store (value_or (slice_get items place) v.Null)

array_read_has : (of : Ty) (store : Store) (at : ℤ) (found : Option Object) → EffectHas of (effect store (read_in of at found))
array_read_has of store at (Some (o.Array elem items)) = either (goes_with of elem)
  where
    either : (c : Bool) → EffectHas of (effect store (if c then in_array items at (item_read of items) else other_kind))
    either true = placed_has of store items (length items) (counted (length items) at) (place_of (length items) (counted (length items) at))
    either false = other_has (out-Ty of) store
array_read_has of store at found = other_has (out-Ty of) store

read_has : (of : Ty) (store : Store) (array : Value) (at : ℤ) → EffectHas of (element_read store of array at)
unfolding element_read
read_has of store v.Null at = null_has (out-Ty of) store
read_has of store (v.Ref id) at = array_read_has of store at (slice_get store.objects id)
read_has of store value at = other_has (out-Ty of) store

reads_fit : (ofs : List Ty) (of : Ty) (values : List Value) (store : Store) → TakesElement ofs of → HaveAll ofs values → OperatedHas of (read_at of values store)
reads_fit [] of values store x h = absurd x
reads_fit (a ∷ []) of values store x h = absurd x
reads_fit (a ∷ b ∷ []) of [] store x h = absurd h
reads_fit (a ∷ b ∷ []) of (array ∷ []) store x h = absurd h.1
reads_fit (a ∷ b ∷ []) of (array ∷ at ∷ []) store x h =
    let place = is_int b at x.1 h.1.0 in
    subst (λ at. OperatedHas of (read_at of (array ∷ at ∷ []) store)) (sym place.1) (read_has of store array place.0)
reads_fit (a ∷ b ∷ []) of (array ∷ at ∷ other ∷ values) store x h = absurd h.1.1
reads_fit (a ∷ b ∷ c ∷ ofs) of values store x h = absurd x

-- a value that is passed on is written, whatever is given
written_acts : (of : Ty) (array : Value) (at : ℤ) (value : Option Value) (store : Store) → IsThere value → IsActs (written_if of array at value store)
written_acts of array at None store x = absurd x
written_acts of array at (Some value) store x = tt

pub writes_act : (ofs : List Ty) (of : Ty) (parts : List Value) (value : Value) (store : Store) → TakesElement ofs of → HaveAll ofs parts → Has of value
    → IsActs (written_at of (parts ++ value ∷ []) store)
writes_act [] of parts value store x h g = absurd x
writes_act (a ∷ []) of parts value store x h g = absurd x
writes_act (a ∷ b ∷ []) of [] value store x h g = absurd h
writes_act (a ∷ b ∷ []) of (array ∷ []) value store x h g = absurd h.1
writes_act (a ∷ b ∷ []) of (array ∷ at ∷ []) value store x h g =
    let place = is_int b at x.1 h.1.0 in
    subst (λ at. IsActs (written_at of (array ∷ at ∷ value ∷ []) store)) (sym place.1)
    (written_acts of array place.0 (passed of value) store (passed_there (out-Ty of) value g))
writes_act (a ∷ b ∷ []) of (array ∷ at ∷ other ∷ values) value store x h g = absurd h.1.1
writes_act (a ∷ b ∷ c ∷ ofs) of parts value store x h g = absurd x

-- ---- lengths and iterators

length_in_has : (of : Ty) (store : Store) (found : Option Object) → of ≡ t.Prim prim.Int → EffectHas of (effect store (length_in found))
length_in_has of store (Some (o.Array elem items)) x = has_int of _ x
length_in_has of store found x = other_has (out-Ty of) store

length_has : (of : Ty) (store : Store) (array : Value) → of ≡ t.Prim prim.Int → EffectHas of (length_of store array)
unfolding length_of
length_has of store v.Null x = null_has (out-Ty of) store
length_has of store (v.Ref id) x = length_in_has of store (slice_get store.objects id) x
length_has of store value x = other_has (out-Ty of) store

more_if_has : (of : Ty) (store : Store) (it : Option Cursor) → of ≡ t.Prim prim.Boolean → EffectHas of (has_more_if store it)
more_if_has of store None x = other_has (out-Ty of) store
more_if_has of store (Some it) x = has_flag of (is_before_end store.objects it) x

more_has : (of : Ty) (store : Store) (iterator : Value) → of ≡ t.Prim prim.Boolean → EffectHas of (has_more store iterator)
unfolding has_more
more_has of store v.Null x = null_has (out-Ty of) store
more_has of store (v.Ref id) x = more_if_has of store (iterator_of store.objects id) x
more_has of store value x = other_has (out-Ty of) store

-- of one operand
abbrev IsOne : List Ty → Type 0
IsOne (of ∷ []) = Unit {0}
IsOne others = ⊥

reference_one : (ofs : List Ty) → TakesReference ofs → IsOne ofs
reference_one [] x = absurd x
reference_one (of ∷ []) x = tt
reference_one (of ∷ other ∷ ofs) x = absurd x

array_one : (ofs : List Ty) → TakesArray ofs → IsOne ofs
array_one [] x = absurd x
array_one (of ∷ []) x = tt
array_one (of ∷ other ∷ ofs) x = absurd x

one_fits : (does : Store → Value → Effect) (ofs : List Ty) (of : Ty) (values : List Value) (store : Store) → IsOne ofs → HaveAll ofs values
    → ((value : Value) → EffectHas of (does store value)) → OperatedHas of (of_one_value does values store)
one_fits does [] of values store x h f = absurd x
one_fits does (a ∷ []) of [] store x h f = absurd h
one_fits does (a ∷ []) of (value ∷ []) store x h f = f value
one_fits does (a ∷ []) of (value ∷ other ∷ values) store x h f = absurd h.1
one_fits does (a ∷ b ∷ ofs) of values store x h f = absurd x

-- ---- what is made

joined_there : (a : ℤ) (others : Option (List ℤ)) → IsThere others → IsThere (option_map (λ others. a ∷ others) others)
joined_there a None x = absurd x
joined_there a (Some others) x = tt

sizes_there : (ofs : List Ty) (values : List Value) → AreAll (t.Prim prim.Int) ofs → HaveAll ofs values → IsThere (ints_of values)
sizes_there [] [] x h = tt
sizes_there [] (value ∷ values) x h = absurd h
sizes_there (of ∷ ofs) [] x h = absurd h
sizes_there (of ∷ ofs) (value ∷ values) x h =
    let size = is_int of value x.0 h.0 in
    subst (λ value. IsThere (ints_of (value ∷ values))) (sym size.1) (joined_there size.0 (ints_of values) (sizes_there ofs values x.1 h.1))

-- a type with a `[]` is a reference's
sized_layer : (l : Ty-F Ty) → 1 ≤ dimensions_layer (map-Ty Ty ℕ dimensions_of l) → is_reference_layer l
sized_layer Ty-F.Void h = absurd (omega (arith, h))
sized_layer Ty-F.Null h = tt
sized_layer Ty-F.Def h = tt
sized_layer (Ty-F.Prim p) h = absurd (omega (arith, h))
sized_layer (Ty-F.Class class) h = tt
sized_layer (Ty-F.Array elem) h = tt

pub sized_reference : (of : Ty) → 1 ≤ dimensions_of of → IsReference of
sized_reference of h = sized_layer (out-Ty of) (subst (λ n. 1 ≤ n) (fold_out-Ty ℕ dimensions_layer of) h)

made_fits : (of : Ty) (sizes : Option (List ℤ)) (store : Store) → IsThere sizes → IsReference of → OperatedHas of (made_of sizes of store)
made_fits of None store x r = absurd x
made_fits of (Some sizes) store x r = reference_effect of (array_made store of sizes) r

sizes_fit : (ofs : List Ty) (of : Ty) (values : List Value) (store : Store) → TakesSizes ofs of → HaveAll ofs values → OperatedHas of (made_of (ints_of values) of store)
sizes_fit ofs of values store x h =
    made_fits of (ints_of values) store (sizes_there ofs values x.0 h) (sized_reference of (omega (arith, x.1, x.2)))

elements_there : (elem : Ty) (ofs : List Ty) (values : List Value) → AreAll elem ofs → HaveAll ofs values → IsThere (passed_alike elem values)
elements_there elem [] [] x h = tt
elements_there elem [] (value ∷ values) x h = absurd h
elements_there elem (of ∷ ofs) [] x h = absurd h
elements_there elem (of ∷ ofs) (value ∷ values) x h =
    both_there (passed elem value) (passed_alike elem values) (passed_there (out-Ty elem) value (subst (λ of. Has of value) x.0 h.0)) (elements_there elem ofs values x.1 h.1)

filled_fits : (of elem : Ty) (items : Option (List Value)) (own : Ty) (store : Store) → of ≡ t.Array elem → IsThere items → OperatedHas of (filled_of items own store)
filled_fits of elem None own store is x = absurd x
filled_fits of elem (Some items) own store is x = array_effect of elem (array_filled store own items) is

-- the element type of an array type
pub element_is : (elem : Ty) → element_of (t.Array elem) ≡ elem
element_is elem = ap (element_layer (t.Array elem)) (outs-Array elem)

holds_fit : (ofs : List Ty) (of : Ty) (values : List Value) (store : Store) → Holds ofs of → HaveAll ofs values
    → OperatedHas of (filled_of (passed_alike (element_of of) values) (element_of of) store)
holds_fit ofs of values store x h =
    let own : element_of of ≡ x.0 = ap element_of x.1 ∙ element_is x.0 in
    filled_fits of x.0 (passed_alike (element_of of) values) (element_of of) store x.1
    (subst (λ elem. IsThere (passed_alike elem values)) (sym own) (elements_there x.0 ofs values x.2 h))

-- An operator of a node of a type comes to a value of that type, or throws.
pub takes_to_fit : (o : Operator) (ofs : List Ty) (of : Ty) (values : List Value) (store : Store) → TakesTo o ofs of → HaveAll ofs values → OperatedHas of (operates_to o of values store)
takes_to_fit (operator.Int o) ofs of values store x h = takes_fit (operator.Int o) ofs of values store x h
takes_to_fit (operator.Long o) ofs of values store x h = takes_fit (operator.Long o) ofs of values store x h
takes_to_fit (operator.Boolean o) ofs of values store x h = takes_fit (operator.Boolean o) ofs of values store x h
takes_to_fit (operator.Def o) ofs of values store x h = takes_fit (operator.Def o) ofs of values store x h
takes_to_fit operator.Equal ofs of values store x h = takes_fit operator.Equal ofs of values store x h
takes_to_fit operator.NotEqual ofs of values store x h = takes_fit operator.NotEqual ofs of values store x h
takes_to_fit operator.Same ofs of values store x h = takes_fit operator.Same ofs of values store x h
takes_to_fit operator.NotSame ofs of values store x h = takes_fit operator.NotSame ofs of values store x h
takes_to_fit operator.Concat ofs of values store x h = takes_fit operator.Concat ofs of values store x h
takes_to_fit operator.List ofs of values store x h = class_effect of _ (list_made store values) x.1
takes_to_fit operator.Map ofs of values store x h = class_effect of _ (map_made store values) x.1
takes_to_fit operator.NewArray ofs of values store x h = sizes_fit ofs of values store x h
takes_to_fit operator.ArrayOf ofs of values store x h = holds_fit ofs of values store x h
takes_to_fit operator.Element ofs of values store x h = reads_fit ofs of values store x h
takes_to_fit operator.PutElement ofs of values store x h = absurd x
takes_to_fit operator.Length ofs of values store x h = one_fits length_of ofs of values store (array_one ofs x.0) h (λ value. length_has of store value x.1)
takes_to_fit operator.Iterate ofs of values store x h = one_fits iterated ofs of values store (reference_one ofs x.0) h (λ value. class_effect of _ (iterated store value) x.1)
takes_to_fit operator.HasNext ofs of values store x h = one_fits has_more ofs of values store (reference_one ofs x.0) h (λ value. more_has of store value x.1)
takes_to_fit operator.Next ofs of values store x h = one_fits next_element ofs of values store (reference_one ofs x.0) h (λ value. def_effect of (next_element store value) (sym x.1))

-- what an operator takes, it takes in a node of the type that it gives
pub as_node : (o : Operator) (ofs : List Ty) (of : Ty) → Takes o ofs of → TakesTo o ofs of
as_node (operator.Int o) ofs of x = x
as_node (operator.Long o) ofs of x = x
as_node (operator.Boolean o) ofs of x = x
as_node (operator.Def o) ofs of x = x
as_node operator.Equal ofs of x = x
as_node operator.NotEqual ofs of x = x
as_node operator.Same ofs of x = x
as_node operator.NotSame ofs of x = x
as_node operator.Concat ofs of x = x
as_node operator.List ofs of x = absurd x
as_node operator.Map ofs of x = absurd x
as_node operator.NewArray ofs of x = absurd x
as_node operator.ArrayOf ofs of x = absurd x
as_node operator.Element ofs of x = absurd x
as_node operator.PutElement ofs of x = absurd x
as_node operator.Length ofs of x = absurd x
as_node operator.Iterate ofs of x = absurd x
as_node operator.HasNext ofs of x = absurd x
as_node operator.Next ofs of x = absurd x
