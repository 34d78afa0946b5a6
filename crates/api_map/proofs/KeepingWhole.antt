-- What the members come to that take whole collections and maps fits the store.
use Rattle.std.proofs.Common.{◌≡◌, ℕ, Bool, true, false, Option, Some, None, List, [], ◌∷◌, length, refl, sym, subst, slice_get, if◌then◌else◌}
use Rattle.pl_types.specs.declared.classes.TheConstants.{MAP, SET}
use Rattle.pl_types.specs.Classes.{class_is_below, lineage_of, parents_of, class_row, class_table}
use Rattle.object_values.specs.declared.object.Object.{Object}
use Rattle.object_values.specs.declared.object.Object.TheVariants as o
use Rattle.object_values.specs.declared.value.Value.{Value}
use Rattle.object_values.specs.declared.value.Value.TheVariants as v
use Rattle.object_values.specs.Pairs.{HasDistinctKeys, with_pair}
use Rattle.object_values.specs.Values.{is_simple}
use Rattle.object_heap.specs.Fits.{Rules, Fits, KeysFit, ObjectsFit, PairsFit, PutsFit, kinds}
use Rattle.object_heap.specs.Parts.{asked, guard_of, object_pairs, pairs_of}
use Rattle.object_heap.proofs.Fitting.{keys_pairs, length-kinds}
use Rattle.object_heap.proofs.PairLemmas.{distinct_with, keys_with}
use Rattle.api_map.specs.declared.arguments.Keyed.{Keyed}
use Rattle.api_map.specs.declared.arguments.Keyed.TheVariants as keyed
use Rattle.api_map.specs.declared.making.MapClass.{MapClass}
use Rattle.api_map.specs.declared.making.MapClass.TheVariants as map
use Rattle.api_map.specs.declared.making.SetClass.{SetClass}
use Rattle.api_map.specs.declared.making.SetClass.TheVariants as set
use Rattle.api_map.specs.declared.sources.Source.{Source}
use Rattle.api_map.specs.Arguments.{if_map, map_named}
use Rattle.container_outcomes.specs.declared.outcome.Outcome.TheVariants.{AddsAll, PutsAll}
use Rattle.container_outcomes.specs.Choices.{with_one}
use Rattle.container_outcomes.specs.Guards.{is_open}
use Rattle.api_map.specs.Guards.{may_put_all, takes_puts}
use Rattle.api_map.specs.Making.{number_of_map, number_of_set}
use Rattle.container_outcomes.specs.Outcomes.{unsupported}
use Rattle.api_map.specs.Sources.{all_simple, are_keys, elements, has_entries, with_keys}
use Rattle.api_map.specs.Whole as whole
use Rattle.container_outcomes.proofs.Fitting.{if_fits, object_there, one_fits}
use Rattle.api_map.proofs.Choosing.{tested_fits}
use Rattle.container_outcomes.specs.Laws.{OutcomeFits}

both_simple : (test : Bool) (rest : Bool) → (if test then rest else false) ≡ true → (test ≡ true) × (rest ≡ true)
both_simple true rest h = (refl, h)
both_simple false rest h = cc

keys_fit : (pairs : List (Value × Value)) (keys : List Value) → all_simple keys ≡ true → KeysFit pairs → KeysFit (with_keys pairs keys)
keys_fit pairs [] h f = f
keys_fit pairs (key ∷ keys) h f = let both = both_simple (is_simple key) (all_simple keys) h in keys_fit (with_pair pairs key v.Null) keys both.1 (keys_with pairs key both.0 f)

keys_distinct : (pairs : List (Value × Value)) (keys : List Value) → HasDistinctKeys pairs → HasDistinctKeys (with_keys pairs keys)
keys_distinct pairs [] f = f
keys_distinct pairs (key ∷ keys) f = keys_distinct (with_pair pairs key v.Null) keys (distinct_with pairs key v.Null f)

-- where elements are keys, they are simple
not_first : (test rest : Bool) → (if test then false else rest) ≡ true → rest ≡ true
not_first true rest h = cc
not_first false rest h = h

simple_elements : (objects : List Object) (source : Source) → are_keys objects source ≡ true → all_simple (elements objects source) ≡ true
simple_elements objects source h = not_first (has_entries objects source) (all_simple (elements objects source)) h

-- a map that is an argument has pairs that fit
found_pairs : (rules : Rules) (objects : List Object) (at id : ℕ) (found : Option Object) → ObjectsFit rules (kinds objects) objects → slice_get objects at ≡ found → if_map at found ≡ Some id
    → PairsFit (length (kinds objects)) (pairs_of objects id) × HasDistinctKeys (pairs_of objects id)
found_pairs rules objects at id None f e h = cc
found_pairs rules objects at id (Some (o.Map class pairs guard changes)) f e h =
    let same : at ≡ id = cc in
    let fit = object_there rules (kinds objects) objects at (o.Map class pairs guard changes) f e in
    subst (λ (n : ℕ). PairsFit (length (kinds objects)) (pairs_of objects n) × HasDistinctKeys (pairs_of objects n)) same
    (subst (λ (there : Option Object). PairsFit (length (kinds objects)) (asked object_pairs [] there) × HasDistinctKeys (asked object_pairs [] there)) (sym e)
    (fit.1, fit.2))
found_pairs rules objects at id (Some object) f e h = cc

named_pairs : (rules : Rules) (objects : List Object) (named : Option ℕ) (id : ℕ) → Fits rules objects → map_named objects named ≡ Some id
    → PairsFit (length (kinds objects)) (pairs_of objects id) × HasDistinctKeys (pairs_of objects id)
named_pairs rules objects None id f h = cc
named_pairs rules objects (Some at) id f h = found_pairs rules objects at id (slice_get objects at) f.each refl h

-- keys go into whatever is there
keys_put : (n : ℕ) (keys : List (Value × Value)) (found : Option Object) → KeysFit keys → PutsFit n keys found
keys_put n keys None h = tt
keys_put n keys (Some (o.Map class pairs guard changes)) h = keys_pairs n keys h
keys_put n keys (Some (o.Set class items guard changes)) h = h
keys_put n keys (Some object) h = tt

added_from_fits : (rules : Rules) (objects : List Object) (id : ℕ) (source : Source) → OutcomeFits rules objects (whole.added_from objects id source)
added_from_fits rules objects id source =
    tested_fits rules objects (are_keys objects source) (AddsAll id (with_keys [] (elements objects source)))
    (λ are. keys_put (length objects) (with_keys [] (elements objects source)) (slice_get objects id) (keys_fit [] (elements objects source) (simple_elements objects source are) tt))

pub added_all_fits : (rules : Rules) (objects : List Object) (source : Option Source) (of : Keyed) → Fits rules objects → OutcomeFits rules objects (whole.added_all objects source of)
added_all_fits rules objects source (keyed.Set id) f =
    if_fits rules objects (is_open (guard_of objects id)) (with_one (whole.added_from objects id) source) unsupported (one_fits rules objects (whole.added_from objects id) source (λ from e. added_from_fits rules objects id from)) tt
added_all_fits rules objects source (keyed.View map part) f = tt

-- a map that is an argument takes pairs that fit
found_takes : (objects : List Object) (count : ℕ) (more : List (Value × Value)) (at id : ℕ) (found : Option Object) → slice_get objects at ≡ found → if_map at found ≡ Some id → PairsFit count more
    → PutsFit count more (slice_get objects id)
found_takes objects count more at id None e h f = cc
found_takes objects count more at id (Some (o.Map class pairs guard changes)) e h f =
    let same : at ≡ id = cc in subst (λ (n : ℕ). PutsFit count more (slice_get objects n)) same (subst (PutsFit count more) (sym e) f)
found_takes objects count more at id (Some object) e h f = cc

named_takes : (objects : List Object) (count : ℕ) (more : List (Value × Value)) (named : Option ℕ) (id : ℕ) → map_named objects named ≡ Some id → PairsFit count more → PutsFit count more (slice_get objects id)
named_takes objects count more None id h f = cc
named_takes objects count more (Some at) id h f = found_takes objects count more at id (slice_get objects at) refl h f

put_from_fits : (rules : Rules) (objects : List Object) (named : Option ℕ) (id from : ℕ) → Fits rules objects → map_named objects named ≡ Some from
    → (PairsFit (length objects) (pairs_of objects from) → PutsFit (length objects) (pairs_of objects from) (slice_get objects id)) → OutcomeFits rules objects (whole.put_from objects id from)
put_from_fits rules objects named id from f e takes =
    if_fits rules objects (may_put_all (guard_of objects id) (pairs_of objects from)) (PutsAll id (pairs_of objects from)) unsupported
    (takes (subst (λ (n : ℕ). PairsFit n (pairs_of objects from)) (length-kinds objects) (named_pairs rules objects named from f e).0)) tt

pub put_all_fits : (rules : Rules) (objects : List Object) (into named : Option ℕ) (id : ℕ) → Fits rules objects → map_named objects into ≡ Some id → OutcomeFits rules objects (whole.put_all_of objects (map_named objects named) id)
put_all_fits rules objects into named id f h =
    if_fits rules objects (takes_puts (guard_of objects id)) (with_one (whole.put_from objects id) (map_named objects named)) unsupported
    (one_fits rules objects (whole.put_from objects id) (map_named objects named)
    (λ from e. put_from_fits rules objects named id from f e (named_takes objects (length objects) (pairs_of objects from) into id h))) tt

set_class : (class : SetClass) → class_is_below (number_of_set class) SET ≡ true
unfolding class_is_below lineage_of parents_of class_row class_table
set_class set.Hash = refl
set_class set.LinkedHash = refl

map_class : (class : MapClass) → class_is_below (number_of_map class) MAP ≡ true
unfolding class_is_below lineage_of parents_of class_row class_table
map_class map.Hash = refl
map_class map.LinkedHash = refl

pub set_of_fits : (rules : Rules) (objects : List Object) (class : SetClass) (source : Source) → OutcomeFits rules objects (whole.set_of class objects source)
set_of_fits rules objects class source =
    tested_fits rules objects (are_keys objects source) (whole.set_made class objects source)
    (λ are. (set_class class, keys_fit [] (elements objects source) (simple_elements objects source are) tt, keys_distinct [] (elements objects source) tt))

pub map_of_fits : (rules : Rules) (objects : List Object) (class : MapClass) (named : Option ℕ) (from : ℕ) → Fits rules objects → map_named objects named ≡ Some from → OutcomeFits rules objects (whole.map_of class objects from)
map_of_fits rules objects class named from f e = let pairs = named_pairs rules objects named from f e in (map_class class, pairs.0, pairs.1)
