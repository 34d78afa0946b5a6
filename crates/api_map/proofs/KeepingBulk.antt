-- What the members come to that ask for each element of another collection fits the store.
use Rattle.std.proofs.Common.{◌≡◌, ℕ, true, false, Option, Some, None, List, [], ◌∷◌, length, refl, slice_get}
use Rattle.pl_types.specs.declared.classes.TheConstants.{MAP, SET}
use Rattle.pl_types.specs.Classes.{class_is_below}
use Rattle.object_values.specs.declared.object.Object.{Object}
use Rattle.object_values.specs.declared.object.Object.TheVariants as o
use Rattle.object_values.specs.declared.object.Part.TheVariants as part
use Rattle.object_values.specs.declared.value.Value.{Value}
use Rattle.object_values.specs.declared.value.Value.TheVariants as v
use Rattle.object_heap.specs.Fits.{Rules, Fits, ObjectsFit, kinds}
use Rattle.object_heap.specs.Parts.{guard_of}
use Rattle.api_map.specs.declared.arguments.Keyed.{Keyed}
use Rattle.api_map.specs.declared.arguments.Keyed.TheVariants as keyed
use Rattle.api_map.specs.declared.bulk.Bulk.{Bulk}
use Rattle.api_map.specs.declared.bulk.Choice.{Choice}
use Rattle.container_outcomes.specs.declared.outcome.Outcome.{Outcome}
use Rattle.container_outcomes.specs.declared.outcome.Outcome.TheVariants as outcome
use Rattle.container_outcomes.specs.declared.outcome.Raised.TheVariants as raised
use Rattle.api_map.specs.declared.sources.Source.{Source}
use Rattle.api_map.specs.declared.sources.Source.TheVariants.{Items, Pairs}
use Rattle.api_map.specs.Arguments.{holder_of}
use Rattle.container_outcomes.specs.Choices.{with_one}
use Rattle.api_map.specs.Bulk as bulk
use Rattle.api_map.specs.Collections.{found_in}
use Rattle.container_outcomes.specs.Guards.{is_open}
use Rattle.api_map.specs.Holding.{entry_in}
use Rattle.container_outcomes.specs.Outcomes.{unsupported}
use Rattle.api_map.specs.Sources.{elements}
use Rattle.api_map.proofs.Bulking.{AreDistinct, KeysLeftFit, LeftFit, sift_distinct, sift_fit, sift_keys}
use Rattle.container_outcomes.proofs.Fitting.{equal_fits, if_fits, object_there, one_fits, says_fits}
use Rattle.container_outcomes.specs.Laws.{OutcomeFits}

-- containsAll
given_fits : (rules : Rules) (objects : List Object) (value : Value) (rest : Outcome) → OutcomeFits rules objects (outcome.Gives value) → OutcomeFits rules objects rest → OutcomeFits rules objects (bulk.found_and (outcome.Gives value) rest)
given_fits rules objects (v.Bool true) rest h k = k
given_fits rules objects (v.Bool false) rest h k = h
given_fits rules objects value rest h k = h

found_and_fits : (rules : Rules) (objects : List Object) (told rest : Outcome) → OutcomeFits rules objects told → OutcomeFits rules objects rest → OutcomeFits rules objects (bulk.found_and told rest)
found_and_fits rules objects (outcome.Gives value) rest h k = given_fits rules objects value rest h k
found_and_fits rules objects told rest h k = h

each_fits : (rules : Rules) (objects : List Object) (found : Value → Outcome) (values : List Value) → ((value : Value) → OutcomeFits rules objects (found value)) → OutcomeFits rules objects (bulk.each_found found values)
each_fits rules objects found [] h = tt
each_fits rules objects found (value ∷ values) h = found_and_fits rules objects (found value) (bulk.each_found found values) (h value) (each_fits rules objects found values h)

entry_found_fits : (rules : Rules) (objects : List Object) (of : Keyed) (from : ℕ) (key : Value) → OutcomeFits rules objects (bulk.entry_found_in objects of from key)
entry_found_fits rules objects (keyed.Set id) from key = says_fits rules objects raised.IllegalArgument _
entry_found_fits rules objects (keyed.View map part.Keys) from key = says_fits rules objects raised.IllegalArgument _
entry_found_fits rules objects (keyed.View map part.Values) from key = equal_fits rules objects (entry_in objects (Pairs map part.Values) from key) _ _ tt tt
entry_found_fits rules objects (keyed.View map part.Entries) from key = equal_fits rules objects (entry_in objects (Pairs map part.Entries) from key) _ _ tt tt

all_found_fits : (rules : Rules) (objects : List Object) (of : Keyed) (source : Source) → ((value : Value) → OutcomeFits rules objects (found_in objects of value)) → OutcomeFits rules objects (bulk.all_found objects of source)
all_found_fits rules objects of (Items id) h = each_fits rules objects (found_in objects of) (elements objects (Items id)) h
all_found_fits rules objects of (Pairs from part.Keys) h = each_fits rules objects (found_in objects of) (elements objects (Pairs from part.Keys)) h
all_found_fits rules objects of (Pairs from part.Values) h = each_fits rules objects (found_in objects of) (elements objects (Pairs from part.Values)) h
all_found_fits rules objects of (Pairs from part.Entries) h = each_fits rules objects (bulk.entry_found_in objects of from) (elements objects (Pairs from part.Keys)) (λ key. entry_found_fits rules objects of from key)

pub contains_all_fits : (rules : Rules) (objects : List Object) (source : Option Source) (of : Keyed) → ((value : Value) → OutcomeFits rules objects (found_in objects of value)) → OutcomeFits rules objects (bulk.contains_all_of objects source of)
contains_all_fits rules objects source of h = one_fits rules objects (bulk.all_found objects of) source (λ from e. all_found_fits rules objects of from h)

-- removeAll and retainAll
map_sifted_fits : (rules : Rules) (objects : List Object) (id class changes before : ℕ) (sifted : bulk.Sifted) → class_is_below class MAP ≡ true → LeftFit (length (kinds objects)) sifted → AreDistinct sifted
    → OutcomeFits rules objects (bulk.map_sifted id class changes before sifted)
map_sifted_fits rules objects id class changes before (bulk.Left left) h f d = ((h, f, d), tt)
map_sifted_fits rules objects id class changes before bulk.TooDeep h f d = says_fits rules objects raised.IllegalState _
map_sifted_fits rules objects id class changes before bulk.TooLarge h f d = says_fits rules objects raised.IllegalState _

set_sifted_fits : (rules : Rules) (objects : List Object) (id class changes before : ℕ) (sifted : bulk.Sifted) → class_is_below class SET ≡ true → KeysLeftFit sifted → AreDistinct sifted
    → OutcomeFits rules objects (bulk.set_sifted id class changes before sifted)
set_sifted_fits rules objects id class changes before (bulk.Left left) h f d = ((h, f, d), tt)
set_sifted_fits rules objects id class changes before bulk.TooDeep h f d = says_fits rules objects raised.IllegalState _
set_sifted_fits rules objects id class changes before bulk.TooLarge h f d = says_fits rules objects raised.IllegalState _

sifted_in_fits : (rules : Rules) (objects : List Object) (id : ℕ) (choose : Value × Value → Choice) (found : Option Object) → ObjectsFit rules (kinds objects) objects → slice_get objects id ≡ found
    → OutcomeFits rules objects (bulk.sifted_in id choose found)
sifted_in_fits rules objects id choose None f e = tt
sifted_in_fits rules objects id choose (Some (o.Map class pairs guard changes)) f e =
    let there = object_there rules (kinds objects) objects id (o.Map class pairs guard changes) f e in
    map_sifted_fits rules objects id class changes (length pairs) (bulk.sift choose pairs) there.0 (sift_fit (length (kinds objects)) choose pairs there.1) (sift_distinct choose pairs there.2)
sifted_in_fits rules objects id choose (Some (o.Set class items guard changes)) f e =
    let there = object_there rules (kinds objects) objects id (o.Set class items guard changes) f e in
    set_sifted_fits rules objects id class changes (length items) (bulk.sift choose items) there.0 (sift_keys choose items there.1) (sift_distinct choose items there.2)
sifted_in_fits rules objects id choose (Some object) f e = tt

pub sifted_fits : (rules : Rules) (objects : List Object) (by : Bulk) (source : Option Source) (of : Keyed) → Fits rules objects → OutcomeFits rules objects (bulk.sifted_of by objects source of)
sifted_fits rules objects by source of f =
    if_fits rules objects (is_open (guard_of objects (holder_of of))) (with_one (bulk.sifted_by objects by of) source) unsupported
    (one_fits rules objects (bulk.sifted_by objects by of) source (λ from e. sifted_in_fits rules objects (holder_of of) (bulk.choose objects (bulk.search_of by of from)) (slice_get objects (holder_of of)) f.each refl)) tt
