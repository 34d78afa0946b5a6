-- What is taken from a container fits the heap: its values are there, and so are its entries once they are added.
use Rattle.std.proofs.Common.{◌≡◌, ℕ, zero, suc, ◌+◌, ◌≤◌, true, Option, Some, List, [], ◌∷◌, ◌++◌, length, sym, subst, arith, slice_get, append_assoc, append-nil, length-append}
use Rattle.object_values.specs.declared.object.Object.{Object}
use Rattle.object_values.specs.declared.object.Object.TheVariants as o
use Rattle.object_values.specs.declared.object.Part.{Part}
use Rattle.object_values.specs.declared.object.Part.TheVariants as part
use Rattle.object_values.specs.declared.value.Value.{Value}
use Rattle.object_values.specs.declared.value.Value.TheVariants as v
use Rattle.object_values.specs.Values.{is_simple}
use Rattle.object_heap.specs.Fits.{Rules, Fits, ValueFits, AllFit, is_map, kinds, passes}
use Rattle.object_heap.specs.Objects.{Kind}
use Rattle.object_heap.specs.Parts.{items_of, pairs_of}
use Rattle.object_heap.proofs.Fitting.{added_fits}
use Rattle.container_parts.specs.Containers.{entry_under, shown_at, there}
use Rattle.container_parts.specs.declared.containers.Container.{Container}
use Rattle.container_parts.specs.declared.containers.Container.TheVariants as c
use Rattle.container_parts.proofs.Standing.{ContainerFits, FoundFits, element_fits}
use Rattle.container_values.specs.Elements.{entries_of, entries_under, entry_keys, entry_keys_of, entry_references, keys_in, map_shown, references, shown_values, taken, values_in, values_of}
use Rattle.container_values.proofs.Places.{key_there, length_entries, value_there}

-- values that are there by their places are all there
all_there : (n : ℕ) (ks : List Kind) (values : List Value) → ((at : ℕ) → FoundFits n ks (there (slice_get values at))) → AllFit n values
all_there n ks [] h = tt
all_there n ks (value ∷ values) h = (h 0, all_there n ks values (λ at. h (suc at)))

shown_fit : (n : ℕ) (ks : List Kind) (pairs : List (Value × Value)) (map : ℕ) (part : Part) → ((at : ℕ) → FoundFits n ks (shown_at pairs map part at)) → AllFit n (shown_values part pairs)
shown_fit n ks pairs map part.Keys h = all_there n ks (keys_in pairs) (λ at. subst (λ (x : Option Value). FoundFits n ks (there x)) (key_there pairs at) (h at))
shown_fit n ks pairs map part.Values h = all_there n ks (values_in pairs) (λ at. subst (λ (x : Option Value). FoundFits n ks (there x)) (value_there pairs at) (h at))
shown_fit n ks pairs map part.Entries h = tt

pub values_fit : (rules : Rules) (objects : List Object) (container : Container) → Fits rules objects → ContainerFits (kinds objects) (Some container) → AllFit (length objects) (values_of objects container)
values_fit rules objects (c.Items id) f h = all_there (length objects) (kinds objects) (items_of objects id) (λ at. element_fits rules objects (Some (c.Items id)) at f h)
values_fit rules objects (c.Array id) f h = all_there (length objects) (kinds objects) (items_of objects id) (λ at. element_fits rules objects (Some (c.Array id)) at f h)
values_fit rules objects (c.Keys id) f h =
    all_there (length objects) (kinds objects) (keys_in (pairs_of objects id))
    (λ at. subst (λ (x : Option Value). FoundFits (length objects) (kinds objects) (there x)) (key_there (pairs_of objects id) at) (element_fits rules objects (Some (c.Keys id)) at f h))
values_fit rules objects (c.Shown map part) f h = shown_fit (length objects) (kinds objects) (pairs_of objects map) map part (λ at. element_fits rules objects (Some (c.Shown map part)) at f h)

-- keys of entries are simple
abbrev pub AllSimple : List Value → Type 0
AllSimple [] = Unit {0}
AllSimple (key ∷ keys) = (is_simple key ≡ true) × AllSimple keys

all_simple : (n : ℕ) (ks : List Kind) (map : ℕ) (keys : List Value) → ((at : ℕ) → FoundFits n ks (entry_under map (slice_get keys at))) → AllSimple keys
all_simple n ks map [] h = tt
all_simple n ks map (key ∷ keys) h = ((h 0).1, all_simple n ks map keys (λ at. h (suc at)))

shown_simple : (n : ℕ) (ks : List Kind) (pairs : List (Value × Value)) (map : ℕ) (part : Part) → ((at : ℕ) → FoundFits n ks (shown_at pairs map part at)) → AllSimple (entry_keys part pairs)
shown_simple n ks pairs map part.Keys h = tt
shown_simple n ks pairs map part.Values h = tt
shown_simple n ks pairs map part.Entries h = all_simple n ks map (keys_in pairs) (λ at. subst (λ (x : Option Value). FoundFits n ks (entry_under map x)) (key_there pairs at) (h at))

keys_simple : (rules : Rules) (objects : List Object) (container : Container) → Fits rules objects → ContainerFits (kinds objects) (Some container) → AllSimple (entry_keys_of objects container)
keys_simple rules objects (c.Items id) f h = tt
keys_simple rules objects (c.Array id) f h = tt
keys_simple rules objects (c.Keys id) f h = tt
keys_simple rules objects (c.Shown map part) f h = shown_simple (length objects) (kinds objects) (pairs_of objects map) map part (λ at. element_fits rules objects (Some (c.Shown map part)) at f h)

-- entries of a map that is there
map_stays : (objects : List Object) (object : Object) (id : ℕ) → passes is_map (slice_get (kinds objects) id) ≡ true → passes is_map (slice_get (kinds (objects ++ object ∷ [])) id) ≡ true
map_stays [] object id h = cc
map_stays (x ∷ objects) object zero h = h
map_stays (x ∷ objects) object (suc id) h = map_stays objects object id h

under_fit : (rules : Rules) (objects : List Object) (map : ℕ) (keys : List Value) → Fits rules objects → passes is_map (slice_get (kinds objects) map) ≡ true → AllSimple keys → Fits rules (objects ++ entries_under map keys)
under_fit rules objects map [] f h s = subst (Fits rules) (sym (append-nil objects)) f
under_fit rules objects map (key ∷ keys) f h s =
    subst (Fits rules) (append_assoc objects (o.Entry map key ∷ []) (entries_under map keys))
    (under_fit rules (objects ++ o.Entry map key ∷ []) map keys (added_fits rules objects (o.Entry map key) f (h, s.0)) (map_stays objects (o.Entry map key) map h) s.1)

none_fit : (rules : Rules) (objects : List Object) → Fits rules objects → Fits rules (objects ++ [])
none_fit rules objects f = subst (Fits rules) (sym (append-nil objects)) f

pub entries_fit : (rules : Rules) (objects : List Object) (container : Container) → Fits rules objects → ContainerFits (kinds objects) (Some container) → Fits rules (objects ++ entries_of objects container)
entries_fit rules objects (c.Items id) f h = none_fit rules objects f
entries_fit rules objects (c.Array id) f h = none_fit rules objects f
entries_fit rules objects (c.Keys id) f h = none_fit rules objects f
entries_fit rules objects (c.Shown map part) f h = under_fit rules objects map (entry_keys part (pairs_of objects map)) f h (keys_simple rules objects (c.Shown map part) f h)

-- what is taken
more_fits : (n m : ℕ) (value : Value) → n ≤ m → ValueFits n value → ValueFits m value
more_fits n m (v.Ref id) h f = omega arith
more_fits n m value h f = tt

all_more : (n m : ℕ) (values : List Value) → n ≤ m → AllFit n values → AllFit m values
all_more n m [] h f = tt
all_more n m (value ∷ values) h f = (more_fits n m value h f.0, all_more n m values h f.1)

pub joined_fit : (n : ℕ) (front more : List Value) → AllFit n front → AllFit n more → AllFit n (front ++ more)
joined_fit n [] more f g = g
joined_fit n (value ∷ front) more f g = (f.0, joined_fit n front more f.1 g)

references_fit : (n from count : ℕ) → from + count ≤ n → AllFit n (references from count)
references_fit n from zero h = tt
references_fit n from (suc count) h = (omega arith, references_fit n (from + 1) count (omega arith))

pub taken_fit : (rules : Rules) (objects : List Object) (container : Container) → Fits rules objects → ContainerFits (kinds objects) (Some container) → AllFit (length (objects ++ entries_of objects container)) (taken objects container)
taken_fit rules objects container f h =
    let keys = entry_keys_of objects container in
    let all : length (objects ++ entries_of objects container) ≡ length objects + length keys = omega (arith, length-append objects (entries_of objects container), length_entries (map_shown container) keys) in
    subst (λ (n : ℕ). AllFit n (taken objects container)) (sym all)
    (joined_fit (length objects + length keys) (values_of objects container) (references (length objects) (length keys))
    (all_more (length objects) (length objects + length keys) (values_of objects container) (omega arith) (values_fit rules objects container f h))
    (references_fit (length objects + length keys) (length objects) (length keys) (omega arith)))

pub entry_references_fit : (rules : Rules) (objects : List Object) (container : Container) → AllFit (length (objects ++ entries_of objects container)) (entry_references objects container)
entry_references_fit rules objects container =
    let keys = entry_keys_of objects container in
    let all : length (objects ++ entries_of objects container) ≡ length objects + length keys = omega (arith, length-append objects (entries_of objects container), length_entries (map_shown container) keys) in
    subst (λ (n : ℕ). AllFit n (entry_references objects container)) (sym all) (references_fit (length objects + length keys) (length objects) (length keys) (omega arith))

pub values_more : (n m : ℕ) (values : List Value) → n ≤ m → AllFit n values → AllFit m values
values_more n m values h f = all_more n m values h f
