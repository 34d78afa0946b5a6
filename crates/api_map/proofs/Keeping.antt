-- What each member comes to fits the store.
use Rattle.std.proofs.Common.{◌≡◌, ℕ, zero, suc, true, Option, Some, None, List, [], ◌∷◌, length, refl, sym, subst, slice_get}
use Rattle.pl_types.specs.declared.classes.TheConstants.{MAP, SET}
use Rattle.pl_types.specs.Classes.{class_is_below, lineage_of, parents_of, class_row, class_table}
use Rattle.object_values.specs.declared.object.Guard.{Guard}
use Rattle.object_values.specs.declared.object.Object.{Object}
use Rattle.object_values.specs.declared.object.Object.TheVariants as o
use Rattle.object_values.specs.declared.object.Part.TheVariants as part
use Rattle.object_values.specs.declared.value.Value.{Value}
use Rattle.object_values.specs.declared.value.Value.TheVariants as v
use Rattle.object_values.specs.Pairs.{value_of}
use Rattle.object_values.specs.Values.{is_simple}
use Rattle.object_heap.specs.Fits.{Rules, Fits, ValueFits, AllFit, ObjectsFit, is_map, kinds, passes}
use Rattle.object_heap.specs.Parts.{guard_of, pairs_of}
use Rattle.object_heap.proofs.Fitting.{values_fit}
use Rattle.member_arguments.specs.Arguments.{object_at}
use Rattle.value_walks.specs.Texts.{text_of}
use Rattle.value_walks.specs.declared.TheConstants.{VISITS}
use Rattle.value_walks.specs.Equality.{value_now}
use Rattle.api_map.specs.declared.arguments.Keyed.{Keyed}
use Rattle.api_map.specs.declared.arguments.Keyed.TheVariants as keyed
use Rattle.api_map.specs.declared.making.MapClass.{MapClass}
use Rattle.api_map.specs.declared.making.MapClass.TheVariants as map
use Rattle.api_map.specs.declared.making.SetClass.{SetClass}
use Rattle.api_map.specs.declared.making.SetClass.TheVariants as set
use Rattle.api_map.specs.declared.member.Member.{Member}
use Rattle.api_map.specs.declared.member.Member.TheVariants as m
use Rattle.api_map.specs.declared.member.Telling.{Telling}
use Rattle.api_map.specs.declared.member.Telling.TheVariants as t
use Rattle.container_outcomes.specs.declared.outcome.Raised.TheVariants as raised
use Rattle.container_outcomes.specs.declared.outcome.Outcome.TheVariants as outcome
use Rattle.api_map.specs.Arguments.{if_map, map_at, map_named, if_entry, entry_at, entry_named, entry_of, holder_of, keyed_at}
use Rattle.api_map.specs.Bulk as bulk
use Rattle.api_map.specs.Collections as collections
use Rattle.api_map.specs.Entries as entries
use Rattle.api_map.specs.Guards.{is_mapped, may_put}
use Rattle.container_outcomes.specs.Guards.{is_open}
use Rattle.api_map.specs.Making as making
use Rattle.api_map.specs.Maps as maps
use Rattle.api_map.specs.Members as members
use Rattle.container_outcomes.specs.Outcomes.{has_key, unsupported}
use Rattle.api_map.specs.Arguments.{with_key}
use Rattle.api_map.specs.Searching.{compared_with, first_from}
use Rattle.api_map.specs.Whole as whole
use Rattle.api_map.specs.Sources.{source_at}
use Rattle.container_outcomes.proofs.Fitting.{says_fits, if_fits, equal_fits, search_fits, one_fits, two_fit, three_fit, value_there, object_there}
use Rattle.api_map.proofs.Choosing.{field_fits, key_fits}
use Rattle.api_map.proofs.KeepingBulk.{contains_all_fits, sifted_fits}
use Rattle.api_map.proofs.KeepingWhole.{added_all_fits, map_of_fits, put_all_fits, set_of_fits}
use Rattle.container_outcomes.specs.Laws.{OutcomeFits}
use Rattle.container_outcomes.proofs.Settling.{now_fits}

-- a map that is an argument is a map
map_passes : (objects : List Object) (at : ℕ) (class : ℕ) (pairs : List (Value × Value)) (guard : Guard) (changes : ℕ) → slice_get objects at ≡ Some (o.Map class pairs guard changes)
    → passes is_map (slice_get (kinds objects) at) ≡ true
map_passes [] at class pairs guard changes e = cc
map_passes (x ∷ objects) zero class pairs guard changes e = let same : o.Map class pairs guard changes ≡ x = cc in rw (sym same) refl
map_passes (x ∷ objects) (suc at) class pairs guard changes e = map_passes objects at class pairs guard changes e

found_map : (objects : List Object) (at id : ℕ) (found : Option Object) → slice_get objects at ≡ found → if_map at found ≡ Some id → passes is_map (slice_get (kinds objects) id) ≡ true
found_map objects at id None e h = cc
found_map objects at id (Some (o.Map class pairs guard changes)) e h = let same : at ≡ id = cc in subst (λ (n : ℕ). passes is_map (slice_get (kinds objects) n) ≡ true) same (map_passes objects at class pairs guard changes e)
found_map objects at id (Some object) e h = cc

named_map : (objects : List Object) (named : Option ℕ) (id : ℕ) → map_named objects named ≡ Some id → passes is_map (slice_get (kinds objects) id) ≡ true
named_map objects None id h = cc
named_map objects (Some at) id h = found_map objects at id (slice_get objects at) refl h

-- an entry that is an argument has a simple key
found_entry : (rules : Rules) (objects : List Object) (at : ℕ) (found : Option Object) (entry : ℕ × Value) → ObjectsFit rules (kinds objects) objects → slice_get objects at ≡ found → if_entry found ≡ Some entry
    → is_simple entry.1 ≡ true
found_entry rules objects at None entry f e h = cc
found_entry rules objects at (Some (o.Entry map key)) entry f e h = let same : key ≡ entry.1 = cc in subst (λ (k : Value). is_simple k ≡ true) same (object_there rules (kinds objects) objects at (o.Entry map key) f e).1
found_entry rules objects at (Some object) entry f e h = cc

named_entry : (rules : Rules) (objects : List Object) (named : Option ℕ) (entry : ℕ × Value) → Fits rules objects → entry_named objects named ≡ Some entry → is_simple entry.1 ≡ true
named_entry rules objects None entry f h = cc
named_entry rules objects (Some at) entry f h = found_entry rules objects at (slice_get objects at) entry f.each refl h

simple_fits : (n : ℕ) (value : Value) → is_simple value ≡ true → ValueFits n value
simple_fits n (v.Ref id) h = cc
simple_fits n value h = tt

-- maps
map_emptied_fits : (rules : Rules) (objects : List Object) (id class : ℕ) (pairs : List (Value × Value)) (changes : ℕ) → class_is_below class MAP ≡ true → OutcomeFits rules objects (maps.map_emptied id class pairs changes)
map_emptied_fits rules objects id class [] changes h = tt
map_emptied_fits rules objects id class (pair ∷ pairs) changes h = (h, tt, tt)

set_emptied_fits : (rules : Rules) (objects : List Object) (id class : ℕ) (items : List (Value × Value)) (changes : ℕ) → class_is_below class SET ≡ true → OutcomeFits rules objects (maps.set_emptied id class items changes)
set_emptied_fits rules objects id class [] changes h = tt
set_emptied_fits rules objects id class (item ∷ items) changes h = (h, tt, tt)

emptied_fits : (rules : Rules) (objects : List Object) (id : ℕ) (found : Option Object) → ObjectsFit rules (kinds objects) objects → slice_get objects id ≡ found → OutcomeFits rules objects (maps.emptied id found)
emptied_fits rules objects id None f e = tt
emptied_fits rules objects id (Some (o.Map class pairs guard changes)) f e = map_emptied_fits rules objects id class pairs changes (object_there rules (kinds objects) objects id (o.Map class pairs guard changes) f e).0
emptied_fits rules objects id (Some (o.Set class items guard changes)) f e = set_emptied_fits rules objects id class items changes (object_there rules (kinds objects) objects id (o.Set class items guard changes) f e).0
emptied_fits rules objects id (Some object) f e = tt

cleared_fits : (rules : Rules) (objects : List Object) (id : ℕ) → Fits rules objects → OutcomeFits rules objects (maps.cleared objects id)
cleared_fits rules objects id f = if_fits rules objects (is_open (guard_of objects id)) (maps.emptied id (slice_get objects id)) unsupported (emptied_fits rules objects id (slice_get objects id) f.each refl) tt

field_given_fits : (rules : Rules) (objects : List Object) (key : Value) (found : Option Value) → ((value : Value) → found ≡ Some value → ValueFits (length objects) value) → OutcomeFits rules objects (maps.field_of objects key found)
field_given_fits rules objects key None h = field_fits rules objects (text_of objects key VISITS)
field_given_fits rules objects key (Some value) h = h value refl

given_fits : (rules : Rules) (objects : List Object) (id : ℕ) (key : Value) → Fits rules objects → OutcomeFits rules objects (maps.value_given objects id key)
given_fits rules objects id key f =
    if_fits rules objects (is_mapped (guard_of objects id)) (maps.field_of objects key (value_of (pairs_of objects id) key)) (with_key key (outcome.Gives (value_now objects id key)))
    (field_given_fits rules objects key (value_of (pairs_of objects id) key) (λ value is. values_fit rules objects id key value f is))
    (key_fits rules objects key (outcome.Gives (value_now objects id key)) (λ simple. now_fits rules objects id key f))

this_fits : (rules : Rules) (objects : List Object) (found : Option Value) (other : Value) → ((value : Value) → found ≡ Some value → ValueFits (length objects) value) → ValueFits (length objects) other
    → OutcomeFits rules objects (maps.this_or found other)
this_fits rules objects None other h k = k
this_fits rules objects (Some value) other h k = h value refl

over_fits : (rules : Rules) (objects : List Object) (id : ℕ) (key value before : Value) → is_simple key ≡ true → ValueFits (length objects) value → ValueFits (length objects) before
    → OutcomeFits rules objects (maps.put_over id key value before)
over_fits rules objects id key value v.Null s h k = (s, h)
over_fits rules objects id key value before s h k = k

-- collections
dropped_fits : (rules : Rules) (objects : List Object) (id : ℕ) (entry : Option (ℕ × Value)) → OutcomeFits rules objects (collections.key_dropped id entry)
dropped_fits rules objects id None = tt
dropped_fits rules objects id (Some entry) = tt

key_found_fits : (rules : Rules) (objects : List Object) (id : ℕ) (key : Value) → OutcomeFits rules objects (maps.key_found objects id key)
key_found_fits rules objects id key = key_fits rules objects key _ (λ simple. tt)

value_found_fits : (rules : Rules) (objects : List Object) (id : ℕ) (value : Value) → OutcomeFits rules objects (maps.value_found objects id value)
value_found_fits rules objects id value = search_fits rules objects (first_from objects value 0 (pairs_of objects id)) _ _ (λ at. tt) tt

found_in_fits : (rules : Rules) (objects : List Object) (of : Keyed) (value : Value) → OutcomeFits rules objects (collections.found_in objects of value)
found_in_fits rules objects (keyed.Set id) value = key_found_fits rules objects id value
found_in_fits rules objects (keyed.View map part.Keys) value = key_found_fits rules objects map value
found_in_fits rules objects (keyed.View map part.Values) value = value_found_fits rules objects map value
found_in_fits rules objects (keyed.View map part.Entries) value = equal_fits rules objects (collections.entry_shown objects map value) _ _ tt tt

added_fits : (rules : Rules) (objects : List Object) (of : Keyed) (key : Value) → OutcomeFits rules objects (collections.added objects of key)
added_fits rules objects (keyed.Set id) key =
    if_fits rules objects (is_open (guard_of objects id)) (with_key key (outcome.Adds id key)) unsupported (key_fits rules objects key (outcome.Adds id key) (λ simple. simple)) tt
added_fits rules objects (keyed.View map part) key = tt

cut_from_fits : (rules : Rules) (objects : List Object) (of : Keyed) (value : Value) → OutcomeFits rules objects (collections.cut_from objects of value)
cut_from_fits rules objects (keyed.Set id) value = key_fits rules objects value _ (λ simple. tt)
cut_from_fits rules objects (keyed.View map part.Keys) value = key_fits rules objects value _ (λ simple. tt)
cut_from_fits rules objects (keyed.View map part.Values) value = search_fits rules objects (first_from objects value 0 (pairs_of objects map)) _ _ (λ at. tt) tt
cut_from_fits rules objects (keyed.View map part.Entries) value = equal_fits rules objects (collections.entry_shown objects map value) _ _ (dropped_fits rules objects map (entry_of objects value)) tt

removed_fits : (rules : Rules) (objects : List Object) (of : Keyed) (value : Value) → OutcomeFits rules objects (collections.removed objects of value)
removed_fits rules objects of value = if_fits rules objects (is_open (guard_of objects (holder_of of))) (collections.cut_from objects of value) unsupported (cut_from_fits rules objects of value) tt

-- entries
set_fits : (rules : Rules) (objects : List Object) (entry : ℕ × Value) (value : Value) → is_simple entry.1 ≡ true → ValueFits (length objects) value → OutcomeFits rules objects (entries.value_set objects entry value)
set_fits rules objects entry value s h =
    if_fits rules objects (may_put (guard_of objects entry.0) entry.1) _ unsupported
    (if_fits rules objects (has_key objects entry.0 entry.1) (outcome.Puts entry.0 entry.1 value) entries.gone (s, h) (says_fits rules objects raised.IllegalState _)) tt

-- constructors
new_map_fits : (rules : Rules) (objects : List Object) (class : MapClass) → OutcomeFits rules objects (making.new_map class)
unfolding class_is_below lineage_of parents_of class_row class_table
new_map_fits rules objects map.Hash = (refl, tt, tt)
new_map_fits rules objects map.LinkedHash = (refl, tt, tt)

new_set_fits : (rules : Rules) (objects : List Object) (class : SetClass) → OutcomeFits rules objects (making.new_set class)
unfolding class_is_below lineage_of parents_of class_row class_table
new_set_fits rules objects set.Hash = (refl, tt, tt)
new_set_fits rules objects set.LinkedHash = (refl, tt, tt)

under_fits : (rules : Rules) (objects : List Object) (id : ℕ) (key value : Value) → ValueFits (length objects) value → OutcomeFits rules objects (maps.put_under objects id key value)
under_fits rules objects id key value h =
    if_fits rules objects (may_put (guard_of objects id) key) _ unsupported (key_fits rules objects key (outcome.Puts id key value) (λ simple. (simple, h))) tt

once_fits : (rules : Rules) (objects : List Object) (id : ℕ) (key value : Value) → Fits rules objects → ValueFits (length objects) value → OutcomeFits rules objects (maps.put_once objects id key value)
once_fits rules objects id key value f h =
    if_fits rules objects (may_put (guard_of objects id) key) _ unsupported
    (key_fits rules objects key (maps.put_over id key value (value_now objects id key)) (λ simple. over_fits rules objects id key value (value_now objects id key) simple h (now_fits rules objects id key f))) tt

again_fits : (rules : Rules) (objects : List Object) (id : ℕ) (key value : Value) → ValueFits (length objects) value → OutcomeFits rules objects (maps.put_again objects id key value)
again_fits rules objects id key value h =
    if_fits rules objects (may_put (guard_of objects id) key) _ unsupported
    (key_fits rules objects key (maps.put_present objects id key value) (λ simple. if_fits rules objects (has_key objects id key) (outcome.Puts id key value) (outcome.Gives v.Null) (simple, h) tt)) tt

cut_fits : (rules : Rules) (objects : List Object) (id : ℕ) (key : Value) → OutcomeFits rules objects (maps.cut_key objects id key)
cut_fits rules objects id key = if_fits rules objects (is_open (guard_of objects id)) _ unsupported (key_fits rules objects key (outcome.CutsKey id key) (λ simple. tt)) tt

cut_pair_fits : (rules : Rules) (objects : List Object) (id : ℕ) (key value : Value) → OutcomeFits rules objects (maps.cut_pair objects id key value)
cut_pair_fits rules objects id key value =
    if_fits rules objects (is_open (guard_of objects id)) _ unsupported
    (key_fits rules objects key (maps.cut_found objects id key value) (λ simple. equal_fits rules objects (compared_with objects value (value_of (pairs_of objects id) key)) _ _ tt tt)) tt

tells_fits : (rules : Rules) (objects : List Object) (telling : Telling) (arguments : List Value) → Fits rules objects → AllFit (length objects) arguments → OutcomeFits rules objects (members.tells objects telling arguments)
tells_fits rules objects t.Add arguments f a = two_fit {B = Value} rules objects (collections.added objects) (keyed_at objects arguments 0) (slice_get arguments 1) (λ of key e k. added_fits rules objects of key)
tells_fits rules objects t.ClearCollection arguments f a = one_fits rules objects (collections.cleared_of objects) (keyed_at objects arguments 0) (λ of e. cleared_fits rules objects (holder_of of) f)
tells_fits rules objects t.Contains arguments f a = two_fit {B = Value} rules objects (collections.found_in objects) (keyed_at objects arguments 0) (slice_get arguments 1) (λ of value e k. found_in_fits rules objects of value)
tells_fits rules objects t.IsEmptyCollection arguments f a = one_fits rules objects (collections.emptiness_of objects) (keyed_at objects arguments 0) (λ of e. tt)
tells_fits rules objects t.SizeOfCollection arguments f a = one_fits rules objects (collections.size_of_keyed objects) (keyed_at objects arguments 0) (λ of e. tt)
tells_fits rules objects (t.NewSet class) arguments f a = new_set_fits rules objects class
tells_fits rules objects t.Clear arguments f a = one_fits rules objects (maps.cleared objects) (map_at objects arguments 0) (λ id e. cleared_fits rules objects id f)
tells_fits rules objects t.ContainsKey arguments f a = two_fit {B = Value} rules objects (maps.key_found objects) (map_at objects arguments 0) (slice_get arguments 1) (λ id key e k. key_found_fits rules objects id key)
tells_fits rules objects t.ContainsValue arguments f a = two_fit {B = Value} rules objects (maps.value_found objects) (map_at objects arguments 0) (slice_get arguments 1) (λ id value e k. value_found_fits rules objects id value)
tells_fits rules objects (t.View part) arguments f a = one_fits rules objects (maps.shown part) (map_at objects arguments 0) (λ id e. named_map objects (object_at arguments 0) id e)
tells_fits rules objects t.Get arguments f a = two_fit {B = Value} rules objects (maps.value_given objects) (map_at objects arguments 0) (slice_get arguments 1) (λ id key e k. given_fits rules objects id key f)
tells_fits rules objects t.GetOrDefault arguments f a =
    three_fit {B = Value} {C = Value} rules objects (maps.value_or_given objects) (map_at objects arguments 0) (slice_get arguments 1) (slice_get arguments 2)
    (λ id key other e k o. key_fits rules objects key (maps.this_or (value_of (pairs_of objects id) key) other)
    (λ simple. this_fits rules objects (value_of (pairs_of objects id) key) other (λ value is. values_fit rules objects id key value f is) (value_there (length objects) arguments 2 other a o)))
tells_fits rules objects t.IsEmpty arguments f a = one_fits rules objects (maps.emptiness_given objects) (map_at objects arguments 0) (λ id e. tt)
tells_fits rules objects t.Put arguments f a =
    three_fit {B = Value} {C = Value} rules objects (maps.put_under objects) (map_at objects arguments 0) (slice_get arguments 1) (slice_get arguments 2)
    (λ id key value e k w. under_fits rules objects id key value (value_there (length objects) arguments 2 value a w))
tells_fits rules objects t.PutIfAbsent arguments f a =
    three_fit {B = Value} {C = Value} rules objects (maps.put_once objects) (map_at objects arguments 0) (slice_get arguments 1) (slice_get arguments 2)
    (λ id key value e k w. once_fits rules objects id key value f (value_there (length objects) arguments 2 value a w))
tells_fits rules objects t.Replace arguments f a =
    three_fit {B = Value} {C = Value} rules objects (maps.put_again objects) (map_at objects arguments 0) (slice_get arguments 1) (slice_get arguments 2)
    (λ id key value e k w. again_fits rules objects id key value (value_there (length objects) arguments 2 value a w))
tells_fits rules objects t.Size arguments f a = one_fits rules objects (maps.size_given objects) (map_at objects arguments 0) (λ id e. tt)
tells_fits rules objects (t.NewMap class) arguments f a = new_map_fits rules objects class
tells_fits rules objects t.AddAll arguments f a = one_fits rules objects (whole.added_all objects (source_at objects arguments 1)) (keyed_at objects arguments 0) (λ of e. added_all_fits rules objects (source_at objects arguments 1) of f)
tells_fits rules objects t.ContainsAll arguments f a =
    one_fits rules objects (bulk.contains_all_of objects (source_at objects arguments 1)) (keyed_at objects arguments 0) (λ of e. contains_all_fits rules objects (source_at objects arguments 1) of (λ value. found_in_fits rules objects of value))
tells_fits rules objects (t.Sift by) arguments f a = one_fits rules objects (bulk.sifted_of by objects (source_at objects arguments 1)) (keyed_at objects arguments 0) (λ of e. sifted_fits rules objects by (source_at objects arguments 1) of f)
tells_fits rules objects t.PutAll arguments f a =
    one_fits rules objects (whole.put_all_of objects (map_at objects arguments 1)) (map_at objects arguments 0) (λ id e. put_all_fits rules objects (object_at arguments 0) (object_at arguments 1) id f e)
tells_fits rules objects (t.NewSetOf class) arguments f a = one_fits rules objects (whole.set_of class objects) (source_at objects arguments 0) (λ source e. set_of_fits rules objects class source)
tells_fits rules objects (t.NewMapOf class) arguments f a =
    one_fits rules objects (whole.map_of class objects) (map_at objects arguments 0) (λ from e. map_of_fits rules objects class (object_at arguments 0) from f e)
tells_fits rules objects t.GetKey arguments f a =
    one_fits {A = ℕ × Value} rules objects entries.key_given (entry_at objects arguments 0) (λ entry e. simple_fits (length objects) entry.1 (named_entry rules objects (object_at arguments 0) entry f e))
tells_fits rules objects t.GetValue arguments f a = one_fits {A = ℕ × Value} rules objects (entries.value_given objects) (entry_at objects arguments 0) (λ entry e. now_fits rules objects entry.0 entry.1 f)
tells_fits rules objects t.SetValue arguments f a =
    two_fit {A = ℕ × Value} {B = Value} rules objects (entries.value_set objects) (entry_at objects arguments 0) (slice_get arguments 1)
    (λ entry value e w. set_fits rules objects entry value (named_entry rules objects (object_at arguments 0) entry f e) (value_there (length objects) arguments 1 value a w))

does_fits : (rules : Rules) (objects : List Object) (member : Member) (arguments : List Value) → Fits rules objects → AllFit (length objects) arguments → OutcomeFits rules objects (members.does objects member arguments)
does_fits rules objects (m.Tells telling) arguments f a = tells_fits rules objects telling arguments f a
does_fits rules objects m.RemoveElement arguments f a = two_fit {B = Value} rules objects (collections.removed objects) (keyed_at objects arguments 0) (slice_get arguments 1) (λ of value e k. removed_fits rules objects of value)
does_fits rules objects m.Remove arguments f a = two_fit {B = Value} rules objects (maps.cut_key objects) (map_at objects arguments 0) (slice_get arguments 1) (λ id key e k. cut_fits rules objects id key)
does_fits rules objects m.RemovePair arguments f a =
    three_fit {B = Value} {C = Value} rules objects (maps.cut_pair objects) (map_at objects arguments 0) (slice_get arguments 1) (slice_get arguments 2) (λ id key value e k w. cut_pair_fits rules objects id key value)

pub found_fits : (rules : Rules) (objects : List Object) (found : Option Member) (arguments : List Value) → Fits rules objects → AllFit (length objects) arguments → OutcomeFits rules objects (members.does_found objects found arguments)
found_fits rules objects None arguments f a = tt
found_fits rules objects (Some member) arguments f a = does_fits rules objects member arguments f a
