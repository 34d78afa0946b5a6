-- What members of containers give is of their types.
use Rattle.std.proofs.Common.{◌≡◌, ◌<◌, ◌==◌, ℕ, ℤ, Bool, true, false, Option, Some, None, List, [], ◌∷◌, ◌++◌, length, get_or, map, arith, refl, sym, ap, subst, ◌∙◌, slice_get, is_some, if◌then◌else◌}
use Rattle.std.specs.Prelude.{nat_lt, option_map}
use Rattle.std.specs.List.{range_with_len}
use Rattle.std.proofs.lemmas.Bool.{and_parts, cond_both, cond-true}
use Rattle.std.proofs.lemmas.List.FromFn.{get_or-map-range_with_len}
use Rattle.std.proofs.lemmas.Option.{slice_get_within}
use Rattle.pl_types.specs.declared.primitive.Primitive.{Primitive}
use Rattle.pl_types.specs.declared.primitive.Primitive.TheVariants as prim
use Rattle.pl_types.specs.declared.ty.Ty.{out-Ty}
use Rattle.allowlist.specs.declared.member.MemberType.{MemberType}
use Rattle.allowlist.specs.Catalogue.{catalogue}
use Rattle.allowlist.proofs.Tables.{length-catalogue}
use Rattle.object_values.specs.declared.object.Object.{Object}
use Rattle.object_values.specs.declared.object.Object.TheVariants as o
use Rattle.object_values.specs.declared.object.Part.TheVariants as part
use Rattle.object_values.specs.declared.value.Value.{Value}
use Rattle.object_values.specs.declared.value.Value.TheVariants as v
use Rattle.object_values.specs.Pairs.{value_of}
use Rattle.object_heap.specs.Effects as e
use Rattle.object_heap.specs.Objects.{renewed_by, with_all_inserted, with_all_put, with_inserted, with_put}
use Rattle.object_heap.specs.Parts.{guard_of, items_of, open_at, pairs_of, size_of}
use Rattle.object_heap.specs.Store.{Store, with_change}
use Rattle.member_arguments.specs.Arguments.{int_at, object_at}
use Rattle.api_iter.specs.Iterators as iterators
use Rattle.api_iter.specs.container_parts_declared.containers.Container.{Container}
use Rattle.api_iter.specs.container_parts_declared.cursors.Cursor.{Cursor}
use Rattle.api_map.specs.Elements.{collection_at, entries_of, entry_keys_of, entry_references, taken}
use Rattle.api_map.specs.container_outcomes_declared.comparing.Compared.{Compared}
use Rattle.api_map.specs.container_outcomes_declared.comparing.Compared.TheVariants as c
use Rattle.api_map.specs.container_outcomes_declared.comparing.Found.{Found}
use Rattle.api_map.specs.container_outcomes_declared.comparing.Found.TheVariants as f
use Rattle.api_map.specs.container_outcomes_declared.outcome.Raised.{Raised}
use Rattle.api_map.specs.container_outcomes_declared.outcome.Raised.TheVariants as raised
use Rattle.api_map.specs.container_outcomes_declared.outcome.Outcome.{Outcome}
use Rattle.api_map.specs.container_outcomes_declared.outcome.Outcome.TheVariants as outcome
use Rattle.api_map.specs.Choices.{with_one, with_two, with_three}
use Rattle.api_map.specs.Comparing.{where_equal, where_found}
use Rattle.api_list.specs.Guards.{is_open, where_open}
use Rattle.api_map.specs.Outcomes as outcomes
use Rattle.api_iter.specs.declared.member.Member.{Member as IterableMember}
use Rattle.api_iter.specs.declared.member.Member.TheVariants as i
use Rattle.api_iter.specs.Iterating as iterating
use Rattle.api_iter.specs.Members as iterables
use Rattle.api_list.specs.declared.member.Member.{Member as ListMember}
use Rattle.api_list.specs.declared.member.Member.TheVariants as l
use Rattle.api_list.specs.Arguments.{list_at}
use Rattle.api_list.specs.Bulk as list_bulk
use Rattle.api_list.specs.Lists as listing
use Rattle.api_list.specs.Members as lists
use Rattle.api_list.specs.Lists.{place_into}
use Rattle.api_list.specs.Searching as list_searching
use Rattle.api_list.specs.Taking as taking
use Rattle.api_list.specs.declared.told.Told.{Told}
use Rattle.api_list.specs.declared.told.Told.TheVariants.{Says, Enters}
use Rattle.api_map.specs.declared.arguments.Keyed.{Keyed}
use Rattle.api_map.specs.declared.arguments.Keyed.TheVariants as keyed
use Rattle.api_map.specs.declared.bulk.Bulk.{Bulk}
use Rattle.api_map.specs.declared.bulk.Bulk.TheVariants.{Remove, Retain}
use Rattle.api_map.specs.declared.bulk.Choice.{Choice}
use Rattle.api_map.specs.declared.member.Member.{Member as MapMember}
use Rattle.api_map.specs.declared.member.Member.TheVariants as m
use Rattle.api_map.specs.declared.member.Telling.{Telling}
use Rattle.api_map.specs.declared.member.Telling.TheVariants as t
use Rattle.api_map.specs.declared.sources.Source.{Source}
use Rattle.api_map.specs.declared.sources.Source.TheVariants.{Items, Pairs}
use Rattle.api_map.specs.Arguments.{entry_of, holder_of, keyed_at, map_at, with_key}
use Rattle.api_map.specs.Bulk as bulk
use Rattle.api_map.specs.Collections as collections
use Rattle.api_map.specs.Holding.{entry_in}
use Rattle.api_map.specs.Maps as mapping
use Rattle.api_map.specs.Members as maps
use Rattle.api_map.specs.Searching as map_searching
use Rattle.api_map.specs.Sources.{are_keys, elements, source_at, with_keys}
use Rattle.api_map.specs.Whole as whole
use Rattle.container_calls.specs.declared.family.Family.{Family}
use Rattle.container_calls.specs.declared.family.Family.TheVariants.{Iterables, Lists, Maps}
use Rattle.container_calls.specs.Members.{act_of, does_container, family_of, has, is_of_containers, is_on_list, list_has}
use Rattle.container_calls.specs.Types.{suits, EffectGives}
use Rattle.container_calls.proofs.Giving.{anything, given_in, paid_gives, throw_gives}

-- ---- outcomes of members that give a primitive

-- whatever flag is given suits
abbrev GivesFlags : Option Primitive → Type 0
GivesFlags wanted = (flag : Bool) → suits wanted (v.Bool flag) ≡ true

abbrev OutcomeGives : Option Primitive → Outcome → Type 0
OutcomeGives wanted (outcome.Gives value) = suits wanted value ≡ true
OutcomeGives wanted (outcome.Inserts id at item value) = suits wanted value ≡ true
OutcomeGives wanted (outcome.Extends id at items value) = suits wanted value ≡ true
OutcomeGives wanted (outcome.Drops id at) = GivesFlags wanted
OutcomeGives wanted (outcome.Adds id key) = GivesFlags wanted
OutcomeGives wanted (outcome.AddsAll id keys) = GivesFlags wanted
OutcomeGives wanted (outcome.DropsKey id key) = GivesFlags wanted
OutcomeGives wanted (outcome.DropsEntry id key) = GivesFlags wanted
OutcomeGives wanted (outcome.CutsPair id at) = GivesFlags wanted
OutcomeGives wanted (outcome.Becomes id object value) = suits wanted value ≡ true
OutcomeGives wanted (outcome.Throws raised message) = Unit {0}
OutcomeGives wanted told = ⊥

paid_change : (wanted : Option Primitive) (store : Store) (id : ℕ) (change : Object → Object) (value : Value) → suits wanted value ≡ true → EffectGives wanted (e.gives_paid store (with_change store.objects id change) value)
paid_change wanted store id change value h = paid_gives wanted store (with_change store.objects id change) 0 (λ paid. e.Gives value paid) (λ room. h)

settled : (wanted : Option Primitive) (store : Store) (told : Outcome) → OutcomeGives wanted told → EffectGives wanted (outcomes.effect store told)
settled wanted store (outcome.Gives value) h = h
settled wanted store (outcome.Inserts id at item value) h = paid_change wanted store id (with_inserted at item) value h
settled wanted store (outcome.Extends id at items value) h = paid_change wanted store id (with_all_inserted at items) value h
settled wanted store (outcome.Drops id at) h = h true
settled wanted store (outcome.Adds id key) h = paid_change wanted store id (with_put key v.Null) _ (h _)
settled wanted store (outcome.AddsAll id keys) h =
    paid_gives wanted store (with_change store.objects id (with_all_put keys)) 0 (λ paid. e.Gives (v.Bool (nat_lt (size_of store.objects id) (size_of paid.objects id))) paid) (λ room. h _)
settled wanted store (outcome.DropsKey id key) h = h _
settled wanted store (outcome.DropsEntry id key) h = h _
settled wanted store (outcome.CutsPair id at) h = h true
settled wanted store (outcome.Becomes id object value) h =
    cond_both (outcomes.is_collection object) _ _ (EffectGives wanted) (λ _. paid_change wanted store id (renewed_by object) value h) (λ _. h)
settled wanted store (outcome.Throws raised message) h = throw_gives wanted store (outcomes.number_of raised) message
settled wanted store told h = absurd h

says_gives : (wanted : Option Primitive) (raised : Raised) (message : List ℕ) → OutcomeGives wanted (outcomes.says raised message)
unfolding outcomes.says
says_gives wanted raised message = tt

if_gives : (wanted : Option Primitive) (test : Bool) (told other : Outcome) → OutcomeGives wanted told → OutcomeGives wanted other → OutcomeGives wanted (if test then told else other)
if_gives wanted true told other h k = h
if_gives wanted false told other h k = k

open_gives : (wanted : Option Primitive) (objects : List Object) (id : ℕ) (told : Outcome) → OutcomeGives wanted told → OutcomeGives wanted (where_open objects id told)
open_gives wanted objects id told h = if_gives wanted (is_open (guard_of objects id)) told outcomes.unsupported h tt

equal_gives : (wanted : Option Primitive) (compared : Compared) (same other : Outcome) → OutcomeGives wanted same → OutcomeGives wanted other → OutcomeGives wanted (where_equal compared same other)
equal_gives wanted c.Same same other h k = h
equal_gives wanted c.Other same other h k = k
equal_gives wanted c.Deep same other h k = says_gives wanted raised.IllegalState _
equal_gives wanted c.Large same other h k = says_gives wanted raised.IllegalState _

search_gives : (wanted : Option Primitive) (found : Found) (told : ℕ → Outcome) (none : Outcome) → ((at : ℕ) → OutcomeGives wanted (told at)) → OutcomeGives wanted none → OutcomeGives wanted (where_found found told none)
search_gives wanted (f.At at) told none h k = h at
search_gives wanted f.Nowhere told none h k = k
search_gives wanted f.Deep told none h k = says_gives wanted raised.IllegalState _
search_gives wanted f.Large told none h k = says_gives wanted raised.IllegalState _

one_gives : {A : Type 0} → (wanted : Option Primitive) (f : A → Outcome) (a : Option A) → ((x : A) → OutcomeGives wanted (f x)) → OutcomeGives wanted (with_one f a)
one_gives wanted f None h = tt
one_gives wanted f (Some x) h = h x

two_give : {A B : Type 0} → (wanted : Option Primitive) (f : A → B → Outcome) (a : Option A) (b : Option B) → ((x : A) (y : B) → OutcomeGives wanted (f x y)) → OutcomeGives wanted (with_two f a b)
two_give wanted f None b h = tt
two_give wanted f (Some x) None h = tt
two_give wanted f (Some x) (Some y) h = h x y

three_give : {A B C : Type 0} → (wanted : Option Primitive) (f : A → B → C → Outcome) (a : Option A) (b : Option B) (c : Option C) → ((x : A) (y : B) (z : C) → OutcomeGives wanted (f x y z))
    → OutcomeGives wanted (with_three f a b c)
three_give wanted f None b c h = tt
three_give wanted f (Some x) None c h = tt
three_give wanted f (Some x) (Some y) None h = tt
three_give wanted f (Some x) (Some y) (Some z) h = h x y z

-- ---- lists

abbrev pub list_given : ListMember → Option Primitive
list_given l.Add = Some prim.Boolean
list_given l.Contains = Some prim.Boolean
list_given l.IsEmpty = Some prim.Boolean
list_given l.Remove = Some prim.Boolean
list_given l.Size = Some prim.Int
list_given l.IndexOf = Some prim.Int
list_given l.LastIndexOf = Some prim.Int
list_given l.ContainsAll = Some prim.Boolean
list_given l.RemoveAll = Some prim.Boolean
list_given l.RetainAll = Some prim.Boolean
list_given member = None

left_gives : (id class changes before : ℕ) (sifted : list_bulk.Sifted) → OutcomeGives (Some prim.Boolean) (list_bulk.list_left id class changes before sifted)
left_gives id class changes before (list_bulk.Left left) = refl
left_gives id class changes before list_bulk.TooDeep = says_gives (Some prim.Boolean) raised.IllegalState _
left_gives id class changes before list_bulk.TooLarge = says_gives (Some prim.Boolean) raised.IllegalState _

list_sifted_gives : (objects : List Object) (by : Bulk) (source : Source) (id : ℕ) (found : Option Object) → OutcomeGives (Some prim.Boolean) (list_bulk.sifted_in objects by source id found)
list_sifted_gives objects by source id None = refl
list_sifted_gives objects by source id (Some (o.List class items guard changes)) = left_gives id class changes (length items) (list_bulk.sift (list_bulk.choose objects by source) items)
list_sifted_gives objects by source id (Some object) = refl

list_sift_gives : (store : Store) (by : Bulk) (arguments : List Value) → OutcomeGives (Some prim.Boolean) (list_bulk.sift_all by store.objects arguments)
list_sift_gives store by arguments =
    one_gives {A = ℕ} (Some prim.Boolean) (list_bulk.sifted_of by store.objects (source_at store.objects arguments 1)) (list_at store.objects arguments 0)
    (λ list. open_gives (Some prim.Boolean) store.objects list (with_one (list_bulk.sifted_by store.objects by list) (source_at store.objects arguments 1))
    (one_gives (Some prim.Boolean) (list_bulk.sifted_by store.objects by list) (source_at store.objects arguments 1) (λ from. list_sifted_gives store.objects by from list (slice_get store.objects list))))

list_gives : (store : Store) (member : ListMember) (arguments : List Value) → EffectGives (list_given member) (outcomes.effect store (lists.does store.objects member arguments))
list_gives store l.Add arguments =
    settled (Some prim.Boolean) store (lists.does store.objects l.Add arguments)
    (two_give {A = ℕ} {B = Value} (Some prim.Boolean) (listing.added store.objects) (list_at store.objects arguments 0) (slice_get arguments 1) (λ list item. open_gives (Some prim.Boolean) store.objects list _ refl))
list_gives store l.Contains arguments =
    settled (Some prim.Boolean) store (lists.does store.objects l.Contains arguments)
    (two_give {A = ℕ} {B = Value} (Some prim.Boolean) (listing.held store.objects) (list_at store.objects arguments 0) (slice_get arguments 1)
    (λ list value. search_gives (Some prim.Boolean) (list_searching.first_from store.objects value 0 (items_of store.objects list)) _ _ (λ at. refl) refl))
list_gives store l.IsEmpty arguments =
    settled (Some prim.Boolean) store (lists.does store.objects l.IsEmpty arguments)
    (one_gives {A = ℕ} (Some prim.Boolean) (listing.emptiness_given store.objects) (list_at store.objects arguments 0) (λ list. refl))
list_gives store l.Remove arguments =
    settled (Some prim.Boolean) store (lists.does store.objects l.Remove arguments)
    (two_give {A = ℕ} {B = Value} (Some prim.Boolean) (listing.dropped store.objects) (list_at store.objects arguments 0) (slice_get arguments 1)
    (λ list value. open_gives (Some prim.Boolean) store.objects list (listing.dropped_found store.objects list value)
    (search_gives (Some prim.Boolean) (list_searching.first_from store.objects value 0 (items_of store.objects list)) _ _ (λ at flag. refl) refl)))
list_gives store l.Size arguments =
    settled (Some prim.Int) store (lists.does store.objects l.Size arguments) (one_gives {A = ℕ} (Some prim.Int) (listing.size_given store.objects) (list_at store.objects arguments 0) (λ list. refl))
list_gives store l.IndexOf arguments =
    settled (Some prim.Int) store (lists.does store.objects l.IndexOf arguments)
    (two_give {A = ℕ} {B = Value} (Some prim.Int) (listing.place_found store.objects) (list_at store.objects arguments 0) (slice_get arguments 1)
    (λ list value. search_gives (Some prim.Int) (list_searching.first_from store.objects value 0 (items_of store.objects list)) _ _ (λ at. refl) refl))
list_gives store l.LastIndexOf arguments =
    settled (Some prim.Int) store (lists.does store.objects l.LastIndexOf arguments)
    (two_give {A = ℕ} {B = Value} (Some prim.Int) (listing.last_place_found store.objects) (list_at store.objects arguments 0) (slice_get arguments 1)
    (λ list value. search_gives (Some prim.Int) (list_searching.last_before store.objects value (items_of store.objects list) (length (items_of store.objects list))) _ _ (λ at. refl) refl))
list_gives store l.ContainsAll arguments =
    settled (Some prim.Boolean) store (lists.does store.objects l.ContainsAll arguments)
    (one_gives {A = ℕ} (Some prim.Boolean) (list_bulk.contains_all_of store.objects (collection_at store.objects arguments 1)) (list_at store.objects arguments 0)
    (λ list. one_gives {A = Container} (Some prim.Boolean) (list_bulk.all_held store.objects list) (collection_at store.objects arguments 1)
    (λ container. equal_gives (Some prim.Boolean) (list_bulk.all_in store.objects list container) _ _ refl refl)))
list_gives store l.RemoveAll arguments = settled (Some prim.Boolean) store (lists.does store.objects l.RemoveAll arguments) (list_sift_gives store Remove arguments)
list_gives store l.RetainAll arguments = settled (Some prim.Boolean) store (lists.does store.objects l.RetainAll arguments) (list_sift_gives store Retain arguments)
list_gives store member arguments = anything (outcomes.effect store (lists.does store.objects member arguments))

-- what a member comes to that may make entries: whether there were any
abbrev ToldGives : Told → Type 0
ToldGives (Says told) = OutcomeGives (Some prim.Boolean) told
ToldGives (Enters list at container) = Unit {0}

entered_gives : (store : Store) (list : ℕ) (container : Container) (grown : Option Object) → EffectGives (Some prim.Boolean) (taking.entered_as store list container grown)
entered_gives store list container None = refl
entered_gives store list container (Some object) =
    paid_gives (Some prim.Boolean) store (with_change (store.objects ++ entries_of store.objects container) list (renewed_by object)) 0 (λ paid. e.Gives (v.Bool true) paid) (λ room. refl)

told_settled : (store : Store) (told : Told) → ToldGives told → EffectGives (Some prim.Boolean) (taking.told_effect store told)
told_settled store (Says told) h = settled (Some prim.Boolean) store told h
told_settled store (Enters list at container) h =
    entered_gives store list container (taking.grown at (entry_references store.objects container) (open_at store.objects list))

if_told : (test : Bool) (told other : Told) → ToldGives told → ToldGives other → ToldGives (if test then told else other)
if_told true told other h k = h
if_told false told other h k = k

from_gives : (objects : List Object) (list : ℕ) (source : Option Container) (at : ℕ) → ToldGives (taking.added_from objects list source at)
from_gives objects list None at = tt
from_gives objects list (Some container) at =
    if_told (length (entry_keys_of objects container) == 0) (Says (outcome.Extends list at (taken objects container) (v.Bool (taking.has_any (taken objects container))))) (Enters list at container) refl tt

place_gives : (count : ℕ) (at : ℤ) (place : Option ℕ) (next : ℕ → Told) → ((at : ℕ) → ToldGives (next at)) → ToldGives (taking.told_place count at place next)
place_gives count at None next h = says_gives (Some prim.Boolean) raised.IndexOutOfBounds _
place_gives count at (Some place) next h = h place

one_told : {A : Type 0} → (f : A → Told) (a : Option A) → ((x : A) → ToldGives (f x)) → ToldGives (taking.told_one f a)
one_told f None h = tt
one_told f (Some x) h = h x

two_told : {A B : Type 0} → (f : A → B → Told) (a : Option A) (b : Option B) → ((x : A) (y : B) → ToldGives (f x y)) → ToldGives (taking.told_two f a b)
two_told f None b h = tt
two_told f (Some x) None h = tt
two_told f (Some x) (Some y) h = h x y

add_all_gives : (objects : List Object) (arguments : List Value) → ToldGives (taking.add_all objects arguments)
add_all_gives objects arguments =
    one_told {A = ℕ} (taking.end_added objects (collection_at objects arguments 1)) (list_at objects arguments 0)
    (λ list. if_told (is_open (guard_of objects list)) (taking.added_from objects list (collection_at objects arguments 1) (length (items_of objects list))) (Says outcomes.unsupported)
    (from_gives objects list (collection_at objects arguments 1) (length (items_of objects list))) tt)

add_all_at_gives : (objects : List Object) (arguments : List Value) → ToldGives (taking.add_all_at objects arguments)
add_all_at_gives objects arguments =
    two_told {A = ℕ} {B = ℤ} (taking.place_added objects (collection_at objects arguments 2)) (list_at objects arguments 0) (int_at arguments 1)
    (λ list at. if_told (is_open (guard_of objects list))
    (taking.told_place (length (items_of objects list)) at (place_into (length (items_of objects list)) at) (taking.added_from objects list (collection_at objects arguments 2))) (Says outcomes.unsupported)
    (place_gives (length (items_of objects list)) at (place_into (length (items_of objects list)) at) (taking.added_from objects list (collection_at objects arguments 2))
    (from_gives objects list (collection_at objects arguments 2))) tt)

-- ---- sets, views and maps

abbrev FlagGiven : Outcome → Type 0
FlagGiven told = OutcomeGives (Some prim.Boolean) told

key_gives : (key : Value) (told : Outcome) → FlagGiven told → FlagGiven (with_key key told)
key_gives key told h = if_gives (Some prim.Boolean) _ told outcomes.not_simple h (says_gives (Some prim.Boolean) raised.IllegalArgument _)

value_found_gives : (objects : List Object) (id : ℕ) (value : Value) → FlagGiven (mapping.value_found objects id value)
value_found_gives objects id value = search_gives (Some prim.Boolean) (map_searching.first_from objects value 0 (pairs_of objects id)) _ _ (λ at. refl) refl

found_gives : (objects : List Object) (of : Keyed) (value : Value) → FlagGiven (collections.found_in objects of value)
found_gives objects (keyed.Set id) value = key_gives value _ refl
found_gives objects (keyed.View map part.Keys) value = key_gives value _ refl
found_gives objects (keyed.View map part.Values) value = value_found_gives objects map value
found_gives objects (keyed.View map part.Entries) value = equal_gives (Some prim.Boolean) (collections.entry_shown objects map value) _ _ refl refl

added_gives : (objects : List Object) (of : Keyed) (key : Value) → FlagGiven (collections.added objects of key)
added_gives objects (keyed.Set id) key = if_gives (Some prim.Boolean) (is_open (guard_of objects id)) (with_key key (outcome.Adds id key)) outcomes.unsupported (key_gives key (outcome.Adds id key) (λ flag. refl)) tt
added_gives objects (keyed.View map part) key = tt

dropped_gives : (map : ℕ) (entry : Option (ℕ × Value)) → FlagGiven (collections.key_dropped map entry)
dropped_gives map None = refl
dropped_gives map (Some entry) = λ flag. refl

cut_gives : (objects : List Object) (of : Keyed) (value : Value) → FlagGiven (collections.cut_from objects of value)
cut_gives objects (keyed.Set id) value = key_gives value (outcome.DropsKey id value) (λ flag. refl)
cut_gives objects (keyed.View map part.Keys) value = key_gives value (outcome.DropsKey map value) (λ flag. refl)
cut_gives objects (keyed.View map part.Values) value = search_gives (Some prim.Boolean) (map_searching.first_from objects value 0 (pairs_of objects map)) _ _ (λ at flag. refl) refl
cut_gives objects (keyed.View map part.Entries) value = equal_gives (Some prim.Boolean) (collections.entry_shown objects map value) _ _ (dropped_gives map (entry_of objects value)) refl

removed_gives : (objects : List Object) (of : Keyed) (value : Value) → FlagGiven (collections.removed objects of value)
removed_gives objects of value = if_gives (Some prim.Boolean) (is_open (guard_of objects (holder_of of))) (collections.cut_from objects of value) outcomes.unsupported (cut_gives objects of value) tt

added_from_gives : (objects : List Object) (id : ℕ) (source : Source) → FlagGiven (whole.added_from objects id source)
added_from_gives objects id source =
    if_gives (Some prim.Boolean) (are_keys objects source) (outcome.AddsAll id (with_keys [] (elements objects source))) outcomes.not_simple (λ flag. refl) (says_gives (Some prim.Boolean) raised.IllegalArgument _)

added_all_gives : (objects : List Object) (source : Option Source) (of : Keyed) → FlagGiven (whole.added_all objects source of)
added_all_gives objects source (keyed.Set id) =
    if_gives (Some prim.Boolean) (is_open (guard_of objects id)) (with_one (whole.added_from objects id) source) outcomes.unsupported
    (one_gives (Some prim.Boolean) (whole.added_from objects id) source (λ from. added_from_gives objects id from)) tt
added_all_gives objects source (keyed.View map part) = tt

-- containsAll
given_and : (value : Value) (rest : Outcome) → FlagGiven (outcome.Gives value) → FlagGiven rest → FlagGiven (bulk.found_and (outcome.Gives value) rest)
given_and (v.Bool true) rest h k = k
given_and (v.Bool false) rest h k = h
given_and value rest h k = h

and_gives : (told rest : Outcome) → FlagGiven told → FlagGiven rest → FlagGiven (bulk.found_and told rest)
and_gives (outcome.Gives value) rest h k = given_and value rest h k
and_gives told rest h k = h

each_gives : (found : Value → Outcome) (values : List Value) → ((value : Value) → FlagGiven (found value)) → FlagGiven (bulk.each_found found values)
each_gives found [] h = refl
each_gives found (value ∷ values) h = and_gives (found value) (bulk.each_found found values) (h value) (each_gives found values h)

entry_found_gives : (objects : List Object) (of : Keyed) (from : ℕ) (key : Value) → FlagGiven (bulk.entry_found_in objects of from key)
entry_found_gives objects (keyed.Set id) from key = says_gives (Some prim.Boolean) raised.IllegalArgument _
entry_found_gives objects (keyed.View map part.Keys) from key = says_gives (Some prim.Boolean) raised.IllegalArgument _
entry_found_gives objects (keyed.View map part.Values) from key = equal_gives (Some prim.Boolean) (entry_in objects (Pairs map part.Values) from key) _ _ refl refl
entry_found_gives objects (keyed.View map part.Entries) from key = equal_gives (Some prim.Boolean) (entry_in objects (Pairs map part.Entries) from key) _ _ refl refl

all_found_gives : (objects : List Object) (of : Keyed) (source : Source) → FlagGiven (bulk.all_found objects of source)
all_found_gives objects of (Items id) = each_gives (collections.found_in objects of) (elements objects (Items id)) (found_gives objects of)
all_found_gives objects of (Pairs from part.Keys) = each_gives (collections.found_in objects of) (elements objects (Pairs from part.Keys)) (found_gives objects of)
all_found_gives objects of (Pairs from part.Values) = each_gives (collections.found_in objects of) (elements objects (Pairs from part.Values)) (found_gives objects of)
all_found_gives objects of (Pairs from part.Entries) = each_gives (bulk.entry_found_in objects of from) (elements objects (Pairs from part.Keys)) (entry_found_gives objects of from)

-- removeAll and retainAll
map_sifted_gives : (id class changes before : ℕ) (sifted : bulk.Sifted) → FlagGiven (bulk.map_sifted id class changes before sifted)
map_sifted_gives id class changes before (bulk.Left left) = refl
map_sifted_gives id class changes before bulk.TooDeep = says_gives (Some prim.Boolean) raised.IllegalState _
map_sifted_gives id class changes before bulk.TooLarge = says_gives (Some prim.Boolean) raised.IllegalState _

set_sifted_gives : (id class changes before : ℕ) (sifted : bulk.Sifted) → FlagGiven (bulk.set_sifted id class changes before sifted)
set_sifted_gives id class changes before (bulk.Left left) = refl
set_sifted_gives id class changes before bulk.TooDeep = says_gives (Some prim.Boolean) raised.IllegalState _
set_sifted_gives id class changes before bulk.TooLarge = says_gives (Some prim.Boolean) raised.IllegalState _

sifted_in_gives : (id : ℕ) (choose : Value × Value → Choice) (found : Option Object) → FlagGiven (bulk.sifted_in id choose found)
sifted_in_gives id choose None = refl
sifted_in_gives id choose (Some (o.Map class pairs guard changes)) = map_sifted_gives id class changes (length pairs) (bulk.sift choose pairs)
sifted_in_gives id choose (Some (o.Set class items guard changes)) = set_sifted_gives id class changes (length items) (bulk.sift choose items)
sifted_in_gives id choose (Some object) = refl

sifted_gives : (objects : List Object) (by : Bulk) (source : Option Source) (of : Keyed) → FlagGiven (bulk.sifted_of by objects source of)
sifted_gives objects by source of =
    if_gives (Some prim.Boolean) (is_open (guard_of objects (holder_of of))) (with_one (bulk.sifted_by objects by of) source) outcomes.unsupported
    (one_gives (Some prim.Boolean) (bulk.sifted_by objects by of) source
    (λ from. sifted_in_gives (holder_of of) (bulk.choose objects (bulk.search_of by of from)) (slice_get objects (holder_of of)))) tt

cut_pair_gives : (objects : List Object) (id : ℕ) (key value : Value) → FlagGiven (mapping.cut_pair objects id key value)
cut_pair_gives objects id key value =
    if_gives (Some prim.Boolean) (is_open (guard_of objects id)) _ outcomes.unsupported
    (key_gives key (mapping.cut_found objects id key value)
    (equal_gives (Some prim.Boolean) (map_searching.compared_with objects value (value_of (pairs_of objects id) key)) (outcome.DropsKey id key) _ (λ flag. refl) refl)) tt

abbrev pub telling_given : Telling → Option Primitive
telling_given t.Add = Some prim.Boolean
telling_given t.Contains = Some prim.Boolean
telling_given t.IsEmptyCollection = Some prim.Boolean
telling_given t.SizeOfCollection = Some prim.Int
telling_given t.ContainsKey = Some prim.Boolean
telling_given t.ContainsValue = Some prim.Boolean
telling_given t.IsEmpty = Some prim.Boolean
telling_given t.Size = Some prim.Int
telling_given t.AddAll = Some prim.Boolean
telling_given t.ContainsAll = Some prim.Boolean
telling_given (t.Sift by) = Some prim.Boolean
telling_given telling = None

abbrev pub map_given : MapMember → Option Primitive
map_given (m.Tells telling) = telling_given telling
map_given m.RemoveElement = Some prim.Boolean
map_given m.Remove = None
map_given m.RemovePair = Some prim.Boolean

telling_gives : (store : Store) (telling : Telling) (arguments : List Value) → EffectGives (telling_given telling) (outcomes.effect store (maps.tells store.objects telling arguments))
telling_gives store t.Add arguments =
    settled (Some prim.Boolean) store (maps.tells store.objects t.Add arguments)
    (two_give {A = Keyed} {B = Value} (Some prim.Boolean) (collections.added store.objects) (keyed_at store.objects arguments 0) (slice_get arguments 1) (added_gives store.objects))
telling_gives store t.Contains arguments =
    settled (Some prim.Boolean) store (maps.tells store.objects t.Contains arguments)
    (two_give {A = Keyed} {B = Value} (Some prim.Boolean) (collections.found_in store.objects) (keyed_at store.objects arguments 0) (slice_get arguments 1) (found_gives store.objects))
telling_gives store t.IsEmptyCollection arguments =
    settled (Some prim.Boolean) store (maps.tells store.objects t.IsEmptyCollection arguments)
    (one_gives {A = Keyed} (Some prim.Boolean) (collections.emptiness_of store.objects) (keyed_at store.objects arguments 0) (λ of. refl))
telling_gives store t.SizeOfCollection arguments =
    settled (Some prim.Int) store (maps.tells store.objects t.SizeOfCollection arguments)
    (one_gives {A = Keyed} (Some prim.Int) (collections.size_of_keyed store.objects) (keyed_at store.objects arguments 0) (λ of. refl))
telling_gives store t.ContainsKey arguments =
    settled (Some prim.Boolean) store (maps.tells store.objects t.ContainsKey arguments)
    (two_give {A = ℕ} {B = Value} (Some prim.Boolean) (mapping.key_found store.objects) (map_at store.objects arguments 0) (slice_get arguments 1) (λ id key. key_gives key _ refl))
telling_gives store t.ContainsValue arguments =
    settled (Some prim.Boolean) store (maps.tells store.objects t.ContainsValue arguments)
    (two_give {A = ℕ} {B = Value} (Some prim.Boolean) (mapping.value_found store.objects) (map_at store.objects arguments 0) (slice_get arguments 1) (value_found_gives store.objects))
telling_gives store t.IsEmpty arguments =
    settled (Some prim.Boolean) store (maps.tells store.objects t.IsEmpty arguments)
    (one_gives {A = ℕ} (Some prim.Boolean) (mapping.emptiness_given store.objects) (map_at store.objects arguments 0) (λ id. refl))
telling_gives store t.Size arguments =
    settled (Some prim.Int) store (maps.tells store.objects t.Size arguments) (one_gives {A = ℕ} (Some prim.Int) (mapping.size_given store.objects) (map_at store.objects arguments 0) (λ id. refl))
telling_gives store t.AddAll arguments =
    settled (Some prim.Boolean) store (maps.tells store.objects t.AddAll arguments)
    (one_gives {A = Keyed} (Some prim.Boolean) (whole.added_all store.objects (source_at store.objects arguments 1)) (keyed_at store.objects arguments 0)
    (added_all_gives store.objects (source_at store.objects arguments 1)))
telling_gives store t.ContainsAll arguments =
    settled (Some prim.Boolean) store (maps.tells store.objects t.ContainsAll arguments)
    (one_gives {A = Keyed} (Some prim.Boolean) (bulk.contains_all_of store.objects (source_at store.objects arguments 1)) (keyed_at store.objects arguments 0)
    (λ of. one_gives (Some prim.Boolean) (bulk.all_found store.objects of) (source_at store.objects arguments 1) (all_found_gives store.objects of)))
telling_gives store (t.Sift by) arguments =
    settled (Some prim.Boolean) store (maps.tells store.objects (t.Sift by) arguments)
    (one_gives {A = Keyed} (Some prim.Boolean) (bulk.sifted_of by store.objects (source_at store.objects arguments 1)) (keyed_at store.objects arguments 0)
    (sifted_gives store.objects by (source_at store.objects arguments 1)))
telling_gives store telling arguments = anything (outcomes.effect store (maps.tells store.objects telling arguments))

map_gives : (store : Store) (member : MapMember) (arguments : List Value) → EffectGives (map_given member) (outcomes.effect store (maps.does store.objects member arguments))
map_gives store (m.Tells telling) arguments = telling_gives store telling arguments
map_gives store m.RemoveElement arguments =
    settled (Some prim.Boolean) store (maps.does store.objects m.RemoveElement arguments)
    (two_give {A = Keyed} {B = Value} (Some prim.Boolean) (collections.removed store.objects) (keyed_at store.objects arguments 0) (slice_get arguments 1) (removed_gives store.objects))
map_gives store m.Remove arguments = anything (outcomes.effect store (maps.does store.objects m.Remove arguments))
map_gives store m.RemovePair arguments =
    settled (Some prim.Boolean) store (maps.does store.objects m.RemovePair arguments)
    (three_give {A = ℕ} {B = Value} {C = Value} (Some prim.Boolean) (mapping.cut_pair store.objects) (map_at store.objects arguments 0) (slice_get arguments 1) (slice_get arguments 2) (cut_pair_gives store.objects))

-- ---- iterators

abbrev pub iterable_given : IterableMember → Option Primitive
iterable_given i.HasNext = Some prim.Boolean
iterable_given member = None

is_there_gives : (store : Store) (id : ℕ) (found : Option Cursor) → EffectGives (Some prim.Boolean) (iterating.next_is_there store id found)
is_there_gives store id None = throw_gives (Some prim.Boolean) store _ None
is_there_gives store id (Some it) = refl

has_next_gives : (store : Store) (found : Option ℕ) → EffectGives (Some prim.Boolean) (iterating.with_receiver store (iterating.has_next_of store) found)
has_next_gives store None = throw_gives (Some prim.Boolean) store _ None
has_next_gives store (Some id) = is_there_gives store id (iterators.iterator_of store.objects id)

iterable_gives : (store : Store) (member : IterableMember) (arguments : List Value) → EffectGives (iterable_given member) (iterables.does store member arguments)
iterable_gives store i.HasNext arguments = has_next_gives store (object_at arguments 0)
iterable_gives store member arguments = anything (iterables.does store member arguments)

-- ---- rows of the catalogue

abbrev row_of : {A : Type 0} → (A → Option Primitive) → Option A → Option (Option Primitive)
row_of given None = None
row_of given (Some member) = Some (given member)

abbrev catalogue_row : (ℕ → Bool) → ℕ → Option (Option Primitive)
catalogue_row holds n = if holds n then option_map given_in (slice_get catalogue n) else None

-- what holds of all rows holds of one
row_at : (row : ℕ → Option (Option Primitive)) (holds : ℕ → Bool) → map row (range_with_len 0 228) ≡ map (catalogue_row holds) (range_with_len 0 228) → (n : ℕ) (member : MemberType) → holds n ≡ true
    → slice_get catalogue n ≡ Some member → row n ≡ Some (given_in member)
row_at row holds all n member is h =
    let within : n < length catalogue = slice_get_within catalogue n member h in
    let small : n < 228 = omega (arith, length-catalogue, within) in
    sym (get_or-map-range_with_len row 0 228 n n None small (omega arith)) ∙ ap (λ rows. get_or rows n None) all ∙ get_or-map-range_with_len (catalogue_row holds) 0 228 n n None small (omega arith)
    ∙ cond-true (holds n) (option_map given_in (slice_get catalogue n)) None is ∙ ap (option_map given_in) h

-- addAll gives a flag, at the end of a list and at a place
abbrev list_row : ℕ → Option (Option Primitive)
list_row n = if n == 98 then Some (Some prim.Boolean) else (if n == 114 then Some (Some prim.Boolean) else row_of list_given (lists.numbered n))

list_rows : map list_row (range_with_len 0 228) ≡ map (catalogue_row list_has) (range_with_len 0 228)
unfolding lists.numbered lists.of_lists lists.of_makers catalogue out-Ty denote.Hole.Carrier.out
list_rows = refl

abbrev has_map : ℕ → Bool
has_map n = is_some (maps.numbered n)

map_rows : map (λ n. row_of map_given (maps.numbered n)) (range_with_len 0 228) ≡ map (catalogue_row has_map) (range_with_len 0 228)
unfolding maps.numbered maps.of_collections maps.of_maps maps.of_entries catalogue out-Ty denote.Hole.Carrier.out
map_rows = refl

abbrev has_iterable : ℕ → Bool
has_iterable n = is_some (iterables.numbered n)

iterable_rows : map (λ n. row_of iterable_given (iterables.numbered n)) (range_with_len 0 228) ≡ map (catalogue_row has_iterable) (range_with_len 0 228)
unfolding iterables.numbered catalogue out-Ty denote.Hole.Carrier.out
iterable_rows = refl

-- ---- all

list_found_gives : (store : Store) (found : Option ListMember) (arguments : List Value) (given : Option Primitive) → row_of list_given found ≡ Some given → EffectGives given (outcomes.effect store (lists.does_found store.objects found arguments))
list_found_gives store None arguments given is = cc
list_found_gives store (Some member) arguments given is =
    let same : list_given member ≡ given = cc in subst (λ (a : Option Primitive). EffectGives a (outcomes.effect store (lists.does store.objects member arguments))) same (list_gives store member arguments)

list_chosen_gives : (store : Store) (one two : Bool) (found : Option ListMember) (a b : Told) (arguments : List Value) (given : Option Primitive)
    → (if one then Some (Some prim.Boolean) else (if two then Some (Some prim.Boolean) else row_of list_given found)) ≡ Some given → ToldGives a → ToldGives b
    → EffectGives given (taking.told_effect store (if one then a else (if two then b else Says (lists.does_found store.objects found arguments))))
list_chosen_gives store true two found a b arguments given is h k =
    let same : Some prim.Boolean ≡ given = cc in subst (λ (p : Option Primitive). EffectGives p (taking.told_effect store a)) same (told_settled store a h)
list_chosen_gives store false true found a b arguments given is h k =
    let same : Some prim.Boolean ≡ given = cc in subst (λ (p : Option Primitive). EffectGives p (taking.told_effect store b)) same (told_settled store b k)
list_chosen_gives store false false found a b arguments given is h k = list_found_gives store found arguments given is

map_found_gives : (store : Store) (found : Option MapMember) (arguments : List Value) (given : Option Primitive) → row_of map_given found ≡ Some given → EffectGives given (outcomes.effect store (maps.does_found store.objects found arguments))
map_found_gives store None arguments given is = cc
map_found_gives store (Some member) arguments given is =
    let same : map_given member ≡ given = cc in subst (λ (a : Option Primitive). EffectGives a (outcomes.effect store (maps.does store.objects member arguments))) same (map_gives store member arguments)

iterable_found_gives : (store : Store) (found : Option IterableMember) (arguments : List Value) (given : Option Primitive) → row_of iterable_given found ≡ Some given → EffectGives given (iterables.does_found store found arguments)
iterable_found_gives store None arguments given is = cc
iterable_found_gives store (Some member) arguments given is =
    let same : iterable_given member ≡ given = cc in subst (λ (a : Option Primitive). EffectGives a (iterables.does store member arguments)) same (iterable_gives store member arguments)

family_gives : (family : Family) (store : Store) (number : ℕ) (member : MemberType) (arguments : List Value) → has family number ≡ true → slice_get catalogue number ≡ Some member
    → EffectGives (given_in member) (act_of family store number arguments)
family_gives Iterables store number member arguments is h =
    iterable_found_gives store (iterables.numbered number) arguments (given_in member) (row_at (λ n. row_of iterable_given (iterables.numbered n)) has_iterable iterable_rows number member is h)
family_gives Lists store number member arguments is h =
    list_chosen_gives store (number == 98) (number == 114) (lists.numbered number) (taking.add_all store.objects arguments) (taking.add_all_at store.objects arguments) arguments (given_in member)
    (row_at list_row list_has list_rows number member is h) (add_all_gives store.objects arguments) (add_all_at_gives store.objects arguments)
family_gives Maps store number member arguments is h =
    map_found_gives store (maps.numbered number) arguments (given_in member) (row_at (λ n. row_of map_given (maps.numbered n)) has_map map_rows number member is h)

-- each family to which the member of a container may go has it
pub family_has : (on_list : Bool) (number : ℕ) → is_of_containers number ≡ true → has (family_of on_list number) number ≡ true
unfolding is_of_containers
family_has true number h = (and_parts (has (family_of true number) number) (has (family_of false number) number) h).0
family_has false number h = (and_parts (has (family_of true number) number) (has (family_of false number) number) h).1

pub container_gives : (store : Store) (number : ℕ) (member : MemberType) (arguments : List Value) → is_of_containers number ≡ true → slice_get catalogue number ≡ Some member
    → EffectGives (given_in member) (does_container store number arguments)
container_gives store number member arguments is h =
    family_gives (family_of (is_on_list store.objects arguments) number) store number member arguments (family_has (is_on_list store.objects arguments) number is) h
