-- What the members that need natural order come to fits the store.
use Rattle.std.proofs.Common.{◌≡◌, ℕ, ◌==◌, Bool, true, false, Option, Some, None, List, [], ◌∷◌, length, drop, refl, subst, slice_get, if◌then◌else◌}
use Rattle.std.specs.Prelude.{nat_lt}
use Rattle.object_values.specs.declared.object.Object.{Object}
use Rattle.object_values.specs.declared.object.Object.TheVariants as o
use Rattle.object_values.specs.declared.object.Part.TheVariants as part
use Rattle.object_values.specs.declared.value.Value.{Value}
use Rattle.object_heap.specs.Fits.{Rules, Fits, AllFit, ObjectFits, ObjectsFit, kinds}
use Rattle.object_heap.specs.Parts.{items_of, pairs_of}
use Rattle.container_parts.specs.Containers.{entry_under}
use Rattle.container_parts.specs.declared.containers.Container.{Container}
use Rattle.container_parts.specs.declared.containers.Container.TheVariants as c
use Rattle.container_parts.proofs.Standing.{ContainerFits, FoundFits, element_fits}
use Rattle.container_values.specs.Elements.{entry_keys_of, keys_in, map_shown, values_of}
use Rattle.container_values.proofs.Fitting.{values_fit}
use Rattle.container_values.proofs.Places.{key_there}
use Rattle.container_outcomes.specs.declared.outcome.Outcome.{Outcome}
use Rattle.container_outcomes.specs.declared.outcome.Outcome.TheVariants.{Gives}
use Rattle.container_outcomes.specs.declared.outcome.Raised.TheVariants as raised
use Rattle.container_outcomes.specs.Laws.{OutcomeFits}
use Rattle.container_outcomes.specs.Outcomes.{null_error}
use Rattle.container_outcomes.proofs.Fitting.{if_fits, object_there, open_fits, says_fits, value_there}
use Rattle.api_sort.specs.declared.choosing.Extreme.{Extreme}
use Rattle.api_sort.specs.Choosing as choosing
use Rattle.api_sort.specs.Ordering as ordering
use Rattle.api_sort.specs.Ordering.{before}
use Rattle.api_sort.specs.Sorting as sorting
use Rattle.api_sort.proofs.Fitting.{best_fits, sorted_fit}

-- what is thrown where there is no order
abbrev RefusedFits : Rules → List Object → Option Outcome → Type 0
RefusedFits rules objects None = Unit {0}
RefusedFits rules objects (Some told) = OutcomeFits rules objects told

other_fits : (rules : Rules) (objects : List Object) (first : Value) (found : Option Value) → RefusedFits rules objects (ordering.other_refused objects first found)
other_fits rules objects first None = tt
other_fits rules objects first (Some other) = says_fits rules objects raised.ClassCast _

others_fit : (rules : Rules) (objects : List Object) (values : List Value) (found : Option Value) → RefusedFits rules objects (ordering.others_refused objects values found)
others_fit rules objects values None = tt
others_fit rules objects values (Some first) = other_fits rules objects first (ordering.first_other first (drop 1 values))

refused_if : (rules : Rules) (objects : List Object) (few null : Bool) (others : Option Outcome) → RefusedFits rules objects others → RefusedFits rules objects (if few then None else (if null then Some null_error else others))
refused_if rules objects true null others h = tt
refused_if rules objects false true others h = tt
refused_if rules objects false false others h = h

refused_or : (rules : Rules) (objects : List Object) (refused : Option Outcome) (told : Outcome) → RefusedFits rules objects refused → OutcomeFits rules objects told → OutcomeFits rules objects (ordering.or_refused refused told)
refused_or rules objects None told h k = k
refused_or rules objects (Some refused) told h k = h

refusal_or : (rules : Rules) (objects : List Object) (values : List Value) (told : Outcome) → OutcomeFits rules objects told → OutcomeFits rules objects (ordering.or_refused (ordering.refusal objects values) told)
refusal_or rules objects values told h =
    refused_or rules objects (ordering.refusal objects values) told
    (refused_if rules objects (nat_lt (length values) 2) (ordering.has_null values) (ordering.others_refused objects values (slice_get values 0)) (others_fit rules objects values (slice_get values 0))) h

-- a list in order
list_sorted_fits : (rules : Rules) (objects : List Object) (id : ℕ) (found : Option Object) → ObjectsFit rules (kinds objects) objects → slice_get objects id ≡ found → OutcomeFits rules objects (sorting.list_sorted id found)
list_sorted_fits rules objects id None f e = tt
list_sorted_fits rules objects id (Some (o.List class items guard changes)) f e =
    let there : ObjectFits rules (kinds objects) (o.List class items guard changes) = object_there rules (kinds objects) objects id (o.List class items guard changes) f e in
    ((there.0, sorted_fit (length (kinds objects)) before items there.1), tt)
list_sorted_fits rules objects id (Some object) f e = tt

pub sorted_fits : (rules : Rules) (objects : List Object) (list : ℕ) → Fits rules objects → OutcomeFits rules objects (sorting.sorted objects list)
sorted_fits rules objects list f =
    open_fits rules objects list _ (refusal_or rules objects (items_of objects list) (sorting.list_sorted list (slice_get objects list)) (list_sorted_fits rules objects list (slice_get objects list) f.each refl))

-- the greatest and the least
rest_fit : (n : ℕ) (values : List Value) → AllFit n values → AllFit n (drop 1 values)
rest_fit n [] f = tt
rest_fit n (value ∷ values) f = f.1

chosen_fits : (rules : Rules) (objects : List Object) (which : Extreme) (values : List Value) (found : Option Value) → AllFit (length objects) values → slice_get values 0 ≡ found → OutcomeFits rules objects (choosing.chosen which objects values found)
chosen_fits rules objects which values None f e = tt
chosen_fits rules objects which values (Some first) f e =
    refusal_or rules objects values (Gives (choosing.best_of which first (drop 1 values)))
    (best_fits (length objects) which first (drop 1 values) (value_there (length objects) values 0 first f e) (rest_fit (length objects) values f))

entry_if : (rules : Rules) (objects : List Object) (map : ℕ) (found : Option Value) → FoundFits (length objects) (kinds objects) (entry_under map found) → OutcomeFits rules objects (choosing.entry_given map found)
entry_if rules objects map None h = tt
entry_if rules objects map (Some key) h = h

no_entry : (rules : Rules) (objects : List Object) (map : ℕ) → OutcomeFits rules objects (choosing.entry_given map None)
no_entry rules objects map = tt

entry_fits : (rules : Rules) (objects : List Object) (container : Container) → Fits rules objects → ContainerFits (kinds objects) (Some container)
    → OutcomeFits rules objects (choosing.entry_given (map_shown container) (slice_get (entry_keys_of objects container) 0))
entry_fits rules objects (c.Items id) f h = no_entry rules objects id
entry_fits rules objects (c.Array id) f h = no_entry rules objects id
entry_fits rules objects (c.Keys id) f h = no_entry rules objects id
entry_fits rules objects (c.Shown map part.Keys) f h = no_entry rules objects map
entry_fits rules objects (c.Shown map part.Values) f h = no_entry rules objects map
entry_fits rules objects (c.Shown map part.Entries) f h =
    entry_if rules objects map (slice_get (keys_in (pairs_of objects map)) 0)
    (subst (λ (x : Option Value). FoundFits (length objects) (kinds objects) (entry_under map x)) (key_there (pairs_of objects map) 0) (element_fits rules objects (Some (c.Shown map part.Entries)) 0 f h))

pub extreme_fits : (rules : Rules) (objects : List Object) (which : Extreme) (container : Container) → Fits rules objects → ContainerFits (kinds objects) (Some container) → OutcomeFits rules objects (choosing.extreme_of which objects container)
extreme_fits rules objects which container f h =
    if_fits rules objects (length (entry_keys_of objects container) == 0) _ _
    (chosen_fits rules objects which (values_of objects container) (slice_get (values_of objects container) 0) (values_fit rules objects container f h) refl)
    (if_fits rules objects (length (entry_keys_of objects container) == 1) _ _ (entry_fits rules objects container f h) (says_fits rules objects raised.ClassCast _))
