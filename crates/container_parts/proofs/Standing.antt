-- Elements of a heap that fits are there, and what an iterator stands over has elements.
use Rattle.std.proofs.Common.{◌≡◌, ℕ, zero, suc, true, Option, Some, None, List, [], ◌∷◌, length, refl, sym, subst, slice_get}
use Rattle.object_values.specs.declared.object.Object.{Object}
use Rattle.object_values.specs.declared.object.Object.TheVariants as o
use Rattle.object_values.specs.declared.object.Part.{Part}
use Rattle.object_values.specs.declared.object.Part.TheVariants as part
use Rattle.object_values.specs.declared.value.Value.{Value}
use Rattle.object_values.specs.declared.value.Value.TheVariants as v
use Rattle.object_values.specs.Pairs.{key_at, pair_value_at}
use Rattle.object_values.specs.Values.{is_simple}
use Rattle.object_heap.specs.Fits.{Rules, Fits, ValueFits, AllFit, PairsFit, KeysFit, ObjectFits, ObjectsFit, can_iterate, is_map, kinds, passes}
use Rattle.object_heap.specs.Objects.{Kind}
use Rattle.object_heap.specs.Parts.{items_of, object_pairs, pairs_of}
use Rattle.object_heap.proofs.Fitting.{items_fit, length-kinds}
use Rattle.container_parts.specs.Containers.{container_of, entry_under, if_container, shown_at, there}
use Rattle.container_parts.specs.Iterators.{element_over, if_iterator}
use Rattle.container_parts.specs.declared.containers.Container.{Container}
use Rattle.container_parts.specs.declared.containers.Container.TheVariants as c
use Rattle.container_parts.specs.declared.cursors.Cursor.{Cursor}
use Rattle.container_parts.specs.declared.elements.Element.{Element}
use Rattle.container_parts.specs.declared.elements.Element.TheVariants as e

-- a value is there; an entry that is to be made fits
abbrev pub FoundFits : ℕ → List Kind → Option Element → Type 0
FoundFits n ks None = Unit {0}
FoundFits n ks (Some (e.There value)) = ValueFits n value
FoundFits n ks (Some (e.Entry map key)) = (passes is_map (slice_get ks map) ≡ true) × (is_simple key ≡ true)

-- a view stands over a map
abbrev pub ContainerFits : List Kind → Option Container → Type 0
ContainerFits ks None = Unit {0}
ContainerFits ks (Some (c.Items id)) = Unit {0}
ContainerFits ks (Some (c.Array id)) = Unit {0}
ContainerFits ks (Some (c.Keys id)) = Unit {0}
ContainerFits ks (Some (c.Shown map part)) = passes is_map (slice_get ks map) ≡ true

simple_fits : (n : ℕ) (value : Value) → is_simple value ≡ true → ValueFits n value
simple_fits n (v.Ref id) h = cc
simple_fits n value h = tt

item_fits : (n : ℕ) (ks : List Kind) (values : List Value) (at : ℕ) → AllFit n values → FoundFits n ks (there (slice_get values at))
item_fits n ks [] at f = tt
item_fits n ks (x ∷ values) zero f = f.0
item_fits n ks (x ∷ values) (suc at) f = item_fits n ks values at f.1

key_fits : (n : ℕ) (ks : List Kind) (pairs : List (Value × Value)) (at : ℕ) → PairsFit n pairs → FoundFits n ks (there (key_at pairs at))
key_fits n ks [] at f = tt
key_fits n ks (pair ∷ pairs) zero f = simple_fits n pair.0 f.0
key_fits n ks (pair ∷ pairs) (suc at) f = key_fits n ks pairs at f.2

value_fits : (n : ℕ) (ks : List Kind) (pairs : List (Value × Value)) (at : ℕ) → PairsFit n pairs → FoundFits n ks (there (pair_value_at pairs at))
value_fits n ks [] at f = tt
value_fits n ks (pair ∷ pairs) zero f = f.1
value_fits n ks (pair ∷ pairs) (suc at) f = value_fits n ks pairs at f.2

entry_fits : (n : ℕ) (ks : List Kind) (map : ℕ) (pairs : List (Value × Value)) (at : ℕ) → passes is_map (slice_get ks map) ≡ true → PairsFit n pairs → FoundFits n ks (entry_under map (key_at pairs at))
entry_fits n ks map [] at h f = tt
entry_fits n ks map (pair ∷ pairs) zero h f = (h, f.0)
entry_fits n ks map (pair ∷ pairs) (suc at) h f = entry_fits n ks map pairs at h f.2

keys_are_pairs : (n : ℕ) (items : List (Value × Value)) → KeysFit items → PairsFit n items
keys_are_pairs n [] f = tt
keys_are_pairs n (pair ∷ pairs) f = (f.0, subst (ValueFits n) (sym f.1) tt, keys_are_pairs n pairs f.2)

own_pairs : (rules : Rules) (ks : List Kind) (object : Object) → ObjectFits rules ks object → PairsFit (length ks) (object_pairs object)
own_pairs rules ks (o.Map class pairs guard changes) f = f.1
own_pairs rules ks (o.Set class items guard changes) f = keys_are_pairs (length ks) items f.1
own_pairs rules ks object f = tt

pairs_there : (rules : Rules) (ks : List Kind) (objects : List Object) → ObjectsFit rules ks objects → (id : ℕ) → PairsFit (length ks) (pairs_of objects id)
pairs_there rules ks [] f id = tt
pairs_there rules ks (x ∷ objects) f zero = own_pairs rules ks x f.0
pairs_there rules ks (x ∷ objects) f (suc id) = pairs_there rules ks objects f.1 id

pairs_fit : (rules : Rules) (objects : List Object) (id : ℕ) → Fits rules objects → PairsFit (length objects) (pairs_of objects id)
pairs_fit rules objects id f = subst (λ (n : ℕ). PairsFit n (pairs_of objects id)) (length-kinds objects) (pairs_there rules (kinds objects) objects f.each id)

shown_fits : (n : ℕ) (ks : List Kind) (pairs : List (Value × Value)) (map : ℕ) (part : Part) (at : ℕ) → passes is_map (slice_get ks map) ≡ true → PairsFit n pairs → FoundFits n ks (shown_at pairs map part at)
shown_fits n ks pairs map part.Keys at h f = key_fits n ks pairs at f
shown_fits n ks pairs map part.Values at h f = value_fits n ks pairs at f
shown_fits n ks pairs map part.Entries at h f = entry_fits n ks map pairs at h f

pub element_fits : (rules : Rules) (objects : List Object) (over : Option Container) (at : ℕ) → Fits rules objects → ContainerFits (kinds objects) over → FoundFits (length objects) (kinds objects) (element_over objects over at)
element_fits rules objects None at f h = tt
element_fits rules objects (Some (c.Items id)) at f h = item_fits (length objects) (kinds objects) (items_of objects id) at (items_fit rules objects id f)
element_fits rules objects (Some (c.Array id)) at f h = item_fits (length objects) (kinds objects) (items_of objects id) at (items_fit rules objects id f)
element_fits rules objects (Some (c.Keys id)) at f h = key_fits (length objects) (kinds objects) (pairs_of objects id) at (pairs_fit rules objects id f)
element_fits rules objects (Some (c.Shown map part)) at f h = shown_fits (length objects) (kinds objects) (pairs_of objects map) map part at h (pairs_fit rules objects map f)

own_container : (rules : Rules) (ks : List Kind) (n : ℕ) (object : Object) → ObjectFits rules ks object → ContainerFits ks (if_container n (Some object))
own_container rules ks n (o.View map part) f = f
own_container rules ks n (o.List class items guard changes) f = tt
own_container rules ks n (o.Array elem items) f = tt
own_container rules ks n (o.Set class items guard changes) f = tt
own_container rules ks n object f = tt

container_there : (rules : Rules) (ks : List Kind) (n : ℕ) (objects : List Object) → ObjectsFit rules ks objects → (id : ℕ) → ContainerFits ks (if_container n (slice_get objects id))
container_there rules ks n [] f id = tt
container_there rules ks n (x ∷ objects) f zero = own_container rules ks n x f.0
container_there rules ks n (x ∷ objects) f (suc id) = container_there rules ks n objects f.1 id

pub container_fits : (rules : Rules) (objects : List Object) (id : ℕ) → Fits rules objects → ContainerFits (kinds objects) (container_of objects id)
container_fits rules objects id f = container_there rules (kinds objects) id objects f.each id

-- what an iterator stands over, and what has elements, may be iterated
iterator_stands : (rules : Rules) (ks : List Kind) (object : Object) (it : Cursor) → ObjectFits rules ks object → if_iterator (Some object) ≡ Some it → passes can_iterate (slice_get ks it.over) ≡ true
iterator_stands rules ks (o.Iter over cursor seen last) it f h =
    let same : (record { over = over; cursor = cursor; seen = seen; last = last }) ≡ it = cc in subst (λ (i : Cursor). passes can_iterate (slice_get ks i.over) ≡ true) same f
iterator_stands rules ks object it f h = cc

iterator_there : (rules : Rules) (ks : List Kind) (objects : List Object) (id : ℕ) (it : Cursor) → ObjectsFit rules ks objects → if_iterator (slice_get objects id) ≡ Some it → passes can_iterate (slice_get ks it.over) ≡ true
iterator_there rules ks [] id it f h = cc
iterator_there rules ks (x ∷ objects) zero it f h = iterator_stands rules ks x it f.0 h
iterator_there rules ks (x ∷ objects) (suc id) it f h = iterator_there rules ks objects id it f.1 h

pub stands_over : (rules : Rules) (objects : List Object) (id : ℕ) (it : Cursor) → Fits rules objects → if_iterator (slice_get objects id) ≡ Some it → passes can_iterate (slice_get (kinds objects) it.over) ≡ true
stands_over rules objects id it f h = iterator_there rules (kinds objects) objects id it f.each h

container_iterates : (n : ℕ) (object : Object) (over : Container) → if_container n (Some object) ≡ Some over → passes can_iterate (slice_get (kinds (object ∷ [])) 0) ≡ true
container_iterates n (o.List class items guard changes) over h = refl
container_iterates n (o.Array elem items) over h = refl
container_iterates n (o.Set class items guard changes) over h = refl
container_iterates n (o.View map part) over h = refl
container_iterates n object over h = cc

pub iterates : (n : ℕ) (objects : List Object) (id : ℕ) (over : Container) → if_container n (slice_get objects id) ≡ Some over → passes can_iterate (slice_get (kinds objects) id) ≡ true
iterates n [] id over h = cc
iterates n (x ∷ objects) zero over h = container_iterates n x over h
iterates n (x ∷ objects) (suc id) over h = iterates n objects id over h
