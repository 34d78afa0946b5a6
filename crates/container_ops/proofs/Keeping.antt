-- What is done with lists, maps, arrays and iterators leaves a store that fits.
use Rattle.std.proofs.Common.{◌≡◌, ℕ, ℤ, ◌<◌, ◌≤◌, Bool, true, false, Option, Some, None, List, ◌++◌, length, refl, arith, if◌then◌else◌}
use Rattle.std.specs.Prelude.{◌&&◌}
use Rattle.std.proofs.lemmas.Bool.Decides.{nat_tests}
use Rattle.pl_types.specs.declared.classes.TheConstants.{NEGATIVE_ARRAY_SIZE_EXCEPTION}
use Rattle.pl_types.specs.Classes.{class_is_below, lineage_of, parents_of, class_row, class_table}
use Rattle.pl_types.specs.declared.ty.Ty.{Ty}
use Rattle.object_values.specs.declared.value.Value.{Value}
use Rattle.object_values.specs.declared.value.Value.TheVariants as v
use Rattle.object_heap.specs.Effects.{Effect}
use Rattle.object_heap.specs.Effects as e
use Rattle.object_heap.specs.Fits.{Rules, Fits, ValueFits, AllFit, EffectFits, is_type}
use Rattle.object_heap.specs.Store.{Store}
use Rattle.object_heap.proofs.Keeping.{after_fits, throws_fits}
use Rattle.container_parts.specs.Containers.{container_of}
use Rattle.container_parts.specs.Iterators as iterators
use Rattle.container_parts.specs.declared.containers.Container.{Container}
use Rattle.container_parts.specs.declared.cursors.Cursor.{Cursor}
use Rattle.container_parts.proofs.Keeping.{iterate_fits, next_fits}
use Rattle.container_outcomes.specs.Outcomes.{null_error}
use Rattle.container_outcomes.proofs.Settling.{settled}
use Rattle.container_ops.specs.Elements as elements
use Rattle.container_ops.specs.Loops as loops
use Rattle.container_ops.specs.Making as making
use Rattle.container_ops.specs.Types.{dimensions_of, on_null, on_other_kind, other_kind}
use Rattle.container_ops.proofs.Sized.{added_arrays_fit, first_is_there, length_given}
use Rattle.container_ops.proofs.Told.{filled_fits, given_at_fits, length_fits, list_fits, map_fits, read_at_fits, written_at_fits}

pub other_fits : (rules : Rules) (store : Store) → Fits rules store.objects → EffectFits rules (on_other_kind store)
other_fits rules store f = settled rules store other_kind f tt

null_fits : (rules : Rules) (store : Store) → Fits rules store.objects → EffectFits rules (on_null store)
null_fits rules store f = settled rules store null_error f tt

-- ---- outcomes

pub list_made_fits : (rules : Rules) (store : Store) (items : List Value) → Fits rules store.objects → AllFit (length store.objects) items → EffectFits rules (making.list_made store items)
unfolding making.list_made
list_made_fits rules store items f h = settled rules store (making.list_told items) f (list_fits rules store.objects items h)

pub map_made_fits : (rules : Rules) (store : Store) (parts : List Value) → Fits rules store.objects → AllFit (length store.objects) parts → EffectFits rules (making.map_made store parts)
unfolding making.map_made
map_made_fits rules store parts f h = settled rules store (making.map_told (making.pairs_in parts)) f (map_fits rules store.objects parts h)

pub array_filled_fits : (rules : Rules) (store : Store) (elem : Ty) (items : List Value) → Fits rules store.objects → AllFit (length store.objects) items → EffectFits rules (making.array_filled store elem items)
unfolding making.array_filled
array_filled_fits rules store elem items f h = settled rules store (making.filled_told store.objects elem items) f (filled_fits rules store.objects elem items h)

pub element_read_fits : (rules : Rules) (store : Store) (of : Ty) (array : Value) (at : ℤ) → Fits rules store.objects → EffectFits rules (elements.element_read store of array at)
unfolding elements.element_read
element_read_fits rules store of array at f = settled rules store (elements.read_at store.objects of array at) f (read_at_fits rules store.objects of array at f)

pub element_given_fits : (rules : Rules) (store : Store) (array : Value) (at : ℤ) → Fits rules store.objects → EffectFits rules (elements.element_given store array at)
unfolding elements.element_given
element_given_fits rules store array at f = settled rules store (elements.given_at store.objects array at) f (given_at_fits rules store.objects array at f)

pub element_written_fits : (rules : Rules) (store : Store) (of : Ty) (array : Value) (at : ℤ) (item : Value) → Fits rules store.objects → ValueFits (length store.objects) item
    → EffectFits rules (elements.element_written store of array at item)
unfolding elements.element_written
element_written_fits rules store of array at item f h = settled rules store (elements.written_at store.objects of array at item) f (written_at_fits rules store.objects of array at item h)

pub length_of_fits : (rules : Rules) (store : Store) (value : Value) → Fits rules store.objects → EffectFits rules (elements.length_of store value)
unfolding elements.length_of
length_of_fits rules store value f = settled rules store (elements.length_told store.objects value) f (length_fits rules store.objects value)

-- ---- iterators

iterated_if_fits : (rules : Rules) (store : Store) (id : ℕ) (over : Option Container) → Fits rules store.objects → EffectFits rules (iterators.iterate_over store id over) → EffectFits rules (loops.iterated_if store id over)
iterated_if_fits rules store id None f h = other_fits rules store f
iterated_if_fits rules store id (Some over) f h = h

pub iterated_fits : (rules : Rules) (store : Store) (value : Value) → Fits rules store.objects → EffectFits rules (loops.iterated store value)
unfolding loops.iterated
iterated_fits rules store v.Null f = null_fits rules store f
iterated_fits rules store (v.Ref id) f = iterated_if_fits rules store id (container_of store.objects id) f (iterate_fits rules store id f)
iterated_fits rules store value f = other_fits rules store f

has_more_if_fits : (rules : Rules) (store : Store) (found : Option Cursor) → Fits rules store.objects → EffectFits rules (loops.has_more_if store found)
has_more_if_fits rules store None f = other_fits rules store f
has_more_if_fits rules store (Some it) f = (f, tt)

pub has_more_fits : (rules : Rules) (store : Store) (value : Value) → Fits rules store.objects → EffectFits rules (loops.has_more store value)
unfolding loops.has_more
has_more_fits rules store v.Null f = null_fits rules store f
has_more_fits rules store (v.Ref id) f = has_more_if_fits rules store (iterators.iterator_of store.objects id) f
has_more_fits rules store value f = other_fits rules store f

next_if_fits : (rules : Rules) (store : Store) (id : ℕ) (found : Option Cursor) → Fits rules store.objects → EffectFits rules (iterators.next_of store id found) → EffectFits rules (loops.next_if store id found)
next_if_fits rules store id None f h = other_fits rules store f
next_if_fits rules store id (Some it) f h = h

pub next_element_fits : (rules : Rules) (store : Store) (value : Value) → Fits rules store.objects → EffectFits rules (loops.next_element store value)
unfolding loops.next_element
next_element_fits rules store v.Null f = null_fits rules store f
next_element_fits rules store (v.Ref id) f = next_if_fits rules store id (iterators.iterator_of store.objects id) f (next_fits rules store id f)
next_element_fits rules store value f = other_fits rules store f

-- ---- arrays with their sizes

negative_fits : (rules : Rules) (store : Store) (size : ℤ) → Fits rules store.objects → EffectFits rules (making.negative_size store size)
unfolding class_is_below lineage_of parents_of class_row class_table
negative_fits rules store size f = throws_fits rules store NEGATIVE_ARRAY_SIZE_EXCEPTION _ f refl

arrays_made_fit : (rules : Rules) (store : Store) (of : Ty) (sizes : List ℕ) → Fits rules store.objects → is_type of ≡ true → 0 < length sizes → length sizes ≤ dimensions_of of
    → EffectFits rules (making.arrays_made store of sizes)
arrays_made_fit rules store of sizes f t some d =
    after_fits rules store (store.objects ++ making.arrays_of of sizes (length store.objects)) 0 (λ paid. e.Gives (v.Ref (length store.objects)) paid)
    (λ room. (added_arrays_fit rules store.objects of sizes f t d, first_is_there store.objects of sizes some))

made_if_fits : (rules : Rules) (store : Store) (of : Ty) (sizes : List ℤ) (found : Option ℤ) → Fits rules store.objects → is_type of ≡ true → 0 < length sizes → length sizes ≤ dimensions_of of
    → EffectFits rules (making.array_made_if store of sizes found)
made_if_fits rules store of sizes (Some size) f t some d = negative_fits rules store size f
made_if_fits rules store of sizes None f t some d =
    let same = length_given sizes in
    arrays_made_fit rules store of (making.lengths_given sizes) f t (omega (arith, same)) (omega (arith, same))

takes_both : (of : Ty) (count : ℕ) → making.takes_sizes of count ≡ true → (0 < count) × (count ≤ dimensions_of of)
takes_both of count h = (grind (arith, nat_tests), grind (arith, nat_tests))

made_where : (rules : Rules) (store : Store) (of : Ty) (sizes : List ℤ) (is takes : Bool) → is_type of ≡ is → making.takes_sizes of (length sizes) ≡ takes → Fits rules store.objects
    → EffectFits rules (if is && takes then making.array_made_if store of sizes (making.first_negative sizes) else on_other_kind store)
made_where rules store of sizes true true t s f =
    let both = takes_both of (length sizes) s in
    made_if_fits rules store of sizes (making.first_negative sizes) f t both.0 both.1
made_where rules store of sizes true false t s f = other_fits rules store f
made_where rules store of sizes false takes t s f = other_fits rules store f

pub array_made_fits : (rules : Rules) (store : Store) (of : Ty) (sizes : List ℤ) → Fits rules store.objects → EffectFits rules (making.array_made store of sizes)
unfolding making.array_made
array_made_fits rules store of sizes f = made_where rules store of sizes (is_type of) (making.takes_sizes of (length sizes)) refl refl f
