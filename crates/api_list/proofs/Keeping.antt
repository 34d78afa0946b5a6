-- What each member comes to fits the store.
use Rattle.std.proofs.Common.{◌≡◌, ℕ, zero, suc, ◌==◌, ℤ, Bool, true, false, Option, Some, None, List, [], ◌∷◌, ◌++◌, length, reverse, refl, sym, subst, slice_get, if◌then◌else◌}
use Rattle.pl_types.specs.declared.classes.TheConstants.{LIST}
use Rattle.std.specs.Prelude.{pos, negsuc}
use Rattle.std.proofs.lemmas.List.{reverse-append}
use Rattle.pl_types.specs.Classes.{class_is_below, lineage_of, parents_of, class_row, class_table}
use Rattle.object_values.specs.declared.object.Object.{Object}
use Rattle.object_values.specs.declared.object.Object.TheVariants as o
use Rattle.object_values.specs.declared.value.Value.{Value}
use Rattle.object_heap.specs.Fits.{Rules, Typed, Fits, ValueFits, AllFit, ItemFits, ObjectFits, ObjectsFit, kinds}
use Rattle.object_heap.specs.Objects.{Kind, with_item}
use Rattle.object_heap.specs.Parts.{items_of}
use Rattle.object_heap.specs.Store.{changed_one, with_change}
use Rattle.object_heap.proofs.Fitting.{items_fit}
use Rattle.object_heap.proofs.Fronting.{whether}
use Rattle.object_heap.proofs.Growth.{cons_changed}
use Rattle.member_arguments.specs.Arguments.{int_at, object_at}
use Rattle.api_list.specs.declared.member.Member.{Member}
use Rattle.api_list.specs.declared.member.Member.TheVariants as m
use Rattle.container_outcomes.specs.declared.outcome.Raised.TheVariants as raised
use Rattle.container_outcomes.specs.declared.outcome.Outcome.{Outcome}
use Rattle.container_outcomes.specs.Laws.{OutcomeFits}
use Rattle.container_outcomes.specs.Choices.{with_one}
use Rattle.container_outcomes.specs.Outcomes.{flag}
use Rattle.container_outcomes.proofs.Fitting.{counted, equal_fits, object_there, one_fits, open_fits, says_fits, search_fits, three_fit, two_fit, value_there}
use Rattle.api_map.specs.declared.bulk.Bulk.{Bulk}
use Rattle.api_map.specs.declared.bulk.Bulk.TheVariants.{Remove, Retain}
use Rattle.api_map.specs.declared.sources.Source.{Source}
use Rattle.api_map.specs.Sources.{source_at}
use Rattle.api_list.specs.Arguments.{if_list, list_at, list_named}
use Rattle.api_list.specs.Bulk as bulk
use Rattle.api_list.specs.Lists as lists
use Rattle.api_list.specs.Making as making
use Rattle.api_list.specs.Members as members
use Rattle.api_list.specs.Taking as taking
use Rattle.api_list.specs.declared.told.Told.{Told}
use Rattle.api_list.specs.declared.told.Told.TheVariants.{Says}
use Rattle.container_parts.specs.declared.containers.Container.{Container}
use Rattle.container_values.specs.Elements.{collection_at}
use Rattle.api_sort.specs.declared.choosing.Extreme.TheVariants.{Greatest, Least}
use Rattle.api_sort.specs.Choosing.{extreme_of}
use Rattle.api_sort.specs.Sorting.{sorted}
use Rattle.api_list.proofs.Sifting.{LeftFit, sift_fit}
use Rattle.api_list.proofs.KeepingOrder.{extreme_fits, sorted_fits}
use Rattle.api_list.proofs.KeepingTaken.{ToldFits, add_all_at_fits, add_all_fits, array_taken_fits, as_list_fits, collection_fits, list_taken_fits}
use Rattle.api_list.specs.Searching.{first_from, last_before}

place_fits : (rules : Rules) (objects : List Object) (count : ℕ) (at : ℤ) (place : Option ℕ) (next : ℕ → Outcome) → ((at : ℕ) → OutcomeFits rules objects (next at)) → OutcomeFits rules objects (lists.at_place count at place next)
place_fits rules objects count at None next h = says_fits rules objects raised.IndexOutOfBounds _
place_fits rules objects count at (Some place) next h = h place

-- a list that is an argument, into which any value may be written
abbrev IsList : Option Object → Type 0
IsList (Some (o.List class items guard changes)) = Unit {0}
IsList found = ⊥

list_takes : (typed : Typed) (ks : List Kind) (value : Value) (found : Option Object) → IsList found → ItemFits typed ks value found
list_takes typed ks value None h = absurd h
list_takes typed ks value (Some (o.List class items guard changes)) h = tt
list_takes typed ks value (Some object) h = absurd h

found_list : (objects : List Object) (at id : ℕ) (found : Option Object) → slice_get objects at ≡ found → if_list at found ≡ Some id → IsList (slice_get objects id)
found_list objects at id None e h = cc
found_list objects at id (Some (o.List class items guard changes)) e h =
    let same : at ≡ id = cc in
    subst (λ (n : ℕ). IsList (slice_get objects n)) same (subst IsList (sym e) tt)
found_list objects at id (Some object) e h = cc

named_list : (objects : List Object) (named : Option ℕ) (id : ℕ) → list_named objects named ≡ Some id → IsList (slice_get objects id)
named_list objects None id h = cc
named_list objects (Some at) id h = found_list objects at id (slice_get objects at) refl h

named_takes : (typed : Typed) (ks : List Kind) (objects : List Object) (value : Value) (named : Option ℕ) (id : ℕ) → list_named objects named ≡ Some id → ItemFits typed ks value (slice_get objects id)
named_takes typed ks objects value named id h = list_takes typed ks value (slice_get objects id) (named_list objects named id h)

-- what is read
item_fits : (n : ℕ) (items : List Value) (at : ℤ) (item : Value) → AllFit n items → lists.item_in items at ≡ Some item → ValueFits n item
item_fits n items (pos at) item f e = value_there n items at item f e
item_fits n items (negsuc at) item f e = cc

given_fits : (rules : Rules) (objects : List Object) (items : List Value) (at : ℤ) (found : Option Value) → ((item : Value) → found ≡ Some item → ValueFits (length objects) item) → OutcomeFits rules objects (lists.item_given items at found)
given_fits rules objects items at None h = says_fits rules objects raised.IndexOutOfBounds _
given_fits rules objects items at (Some item) h = h item refl

got_fits : (rules : Rules) (objects : List Object) (list : ℕ) (at : ℤ) → Fits rules objects → OutcomeFits rules objects (lists.got objects list at)
got_fits rules objects list at f =
    given_fits rules objects (items_of objects list) at (lists.item_in (items_of objects list) at)
    (λ item is. item_fits (length objects) (items_of objects list) at item (items_fit rules objects list f) is)

-- what is emptied
list_emptied_fits : (rules : Rules) (objects : List Object) (id class : ℕ) (items : List Value) (changes : ℕ) → class_is_below class LIST ≡ true → OutcomeFits rules objects (lists.list_emptied id class items changes)
list_emptied_fits rules objects id class [] changes h = tt
list_emptied_fits rules objects id class (item ∷ items) changes h = (h, tt)

emptied_fits : (rules : Rules) (objects : List Object) (id : ℕ) (found : Option Object) → ObjectsFit rules (kinds objects) objects → slice_get objects id ≡ found → OutcomeFits rules objects (lists.emptied id found)
emptied_fits rules objects id None f e = tt
emptied_fits rules objects id (Some (o.List class items guard changes)) f e =
    list_emptied_fits rules objects id class items changes (object_there rules (kinds objects) objects id (o.List class items guard changes) f e).0
emptied_fits rules objects id (Some object) f e = tt

-- what is made
new_list_fits : (rules : Rules) (objects : List Object) → OutcomeFits rules objects making.new_list
unfolding class_is_below lineage_of parents_of class_row class_table
new_list_fits rules objects = (refl, tt)

empty_list_fits : (rules : Rules) (objects : List Object) → OutcomeFits rules objects making.empty_list
unfolding class_is_below lineage_of parents_of class_row class_table
empty_list_fits rules objects = (refl, tt)

empty_map_fits : (rules : Rules) (objects : List Object) → OutcomeFits rules objects making.empty_map
unfolding class_is_below lineage_of parents_of class_row class_table
empty_map_fits rules objects = (refl, tt, tt)

one_list_fits : (rules : Rules) (objects : List Object) (item : Value) → ValueFits (length objects) item → OutcomeFits rules objects (making.list_of_one item)
unfolding class_is_below lineage_of parents_of class_row class_table
one_list_fits rules objects item h = (refl, (counted objects item h, tt))

-- items in the opposite order
all_joined : (n : ℕ) (front more : List Value) → AllFit n front → AllFit n more → AllFit n (front ++ more)
all_joined n [] more f g = g
all_joined n (value ∷ front) more f g = (f.0, all_joined n front more f.1 g)

all_reversed : (n : ℕ) (values : List Value) → AllFit n values → AllFit n (reverse values)
all_reversed n [] f = tt
all_reversed n (value ∷ values) f = subst (AllFit n) (sym (reverse-append (value ∷ []) values)) (all_joined n (reverse values) (value ∷ []) (all_reversed n values f.1) (f.0, tt))

reversed_fits : (rules : Rules) (objects : List Object) (id : ℕ) (found : Option Object) → ObjectsFit rules (kinds objects) objects → slice_get objects id ≡ found → OutcomeFits rules objects (lists.list_reversed id found)
reversed_fits rules objects id None f e = tt
reversed_fits rules objects id (Some (o.List class items guard changes)) f e =
    let there : ObjectFits rules (kinds objects) (o.List class items guard changes) = object_there rules (kinds objects) objects id (o.List class items guard changes) f e in
    ((there.0, all_reversed (length (kinds objects)) items there.1), tt)
reversed_fits rules objects id (Some object) f e = tt

-- items in each other's places
with_item_list : (at : ℕ) (item : Value) (object : Object) → IsList (Some object) → IsList (Some (with_item at item object))
with_item_list at item (o.List class items guard changes) h = tt
with_item_list at item object h = absurd h

one_list : (objects : List Object) (id at : ℕ) (item : Value) → IsList (slice_get objects id) → IsList (slice_get (changed_one objects id (with_item at item)) id)
one_list [] id at item h = absurd h
one_list (x ∷ objects) zero at item h = with_item_list at item x h
one_list (x ∷ objects) (suc id) at item h = rw (cons_changed x objects id (with_item at item) (slice_get objects id)) (one_list objects id at item h)

stays_list : (objects : List Object) (id at : ℕ) (item : Value) → IsList (slice_get objects id) → IsList (slice_get (with_change objects id (with_item at item)) id)
stays_list objects id at item h = whether objects id (with_item at item) (λ (after : List Object). IsList (slice_get after id)) h (one_list objects id at item h)

both_fit : (rules : Rules) (objects : List Object) (list at other_at : ℕ) (item other : Option Value) → IsList (slice_get objects list) → ((value : Value) → item ≡ Some value → ValueFits (length objects) value)
    → ((value : Value) → other ≡ Some value → ValueFits (length objects) value) → OutcomeFits rules objects (lists.items_swapped list at other_at item other)
both_fit rules objects list at other_at (Some item) (Some other) l f g =
    ((g other refl, list_takes rules.typed (kinds objects) other (slice_get objects list) l), (f item refl, list_takes rules.typed (kinds (with_change objects list (with_item at other))) item (slice_get (with_change objects list (with_item at other)) list) (stays_list objects list at other l)))
both_fit rules objects list at other_at None other l f g = tt
both_fit rules objects list at other_at (Some item) None l f g = tt

places_fit : (rules : Rules) (objects : List Object) (named : Option ℕ) (list at other_at : ℕ) → Fits rules objects → list_named objects named ≡ Some list → OutcomeFits rules objects (lists.places_swapped objects list at other_at)
places_fit rules objects named list at other_at f e =
    both_fit rules objects list at other_at (slice_get (items_of objects list) at) (slice_get (items_of objects list) other_at) (named_list objects named list e)
    (λ value is. value_there (length objects) (items_of objects list) at value (items_fit rules objects list f) is)
    (λ value is. value_there (length objects) (items_of objects list) other_at value (items_fit rules objects list f) is)

-- items that stay
left_fits : (rules : Rules) (objects : List Object) (id class changes before : ℕ) (sifted : bulk.Sifted) → class_is_below class LIST ≡ true → LeftFit (length (kinds objects)) sifted
    → OutcomeFits rules objects (bulk.list_left id class changes before sifted)
left_fits rules objects id class changes before (bulk.Left left) h f = ((h, f), tt)
left_fits rules objects id class changes before bulk.TooDeep h f = says_fits rules objects raised.IllegalState _
left_fits rules objects id class changes before bulk.TooLarge h f = says_fits rules objects raised.IllegalState _

sifted_in_fits : (rules : Rules) (objects : List Object) (by : Bulk) (source : Source) (id : ℕ) (found : Option Object) → ObjectsFit rules (kinds objects) objects → slice_get objects id ≡ found
    → OutcomeFits rules objects (bulk.sifted_in objects by source id found)
sifted_in_fits rules objects by source id None f e = tt
sifted_in_fits rules objects by source id (Some (o.List class items guard changes)) f e =
    let there : ObjectFits rules (kinds objects) (o.List class items guard changes) = object_there rules (kinds objects) objects id (o.List class items guard changes) f e in
    left_fits rules objects id class changes (length items) (bulk.sift (bulk.choose objects by source) items) there.0 (sift_fit (length (kinds objects)) (bulk.choose objects by source) items there.1)
sifted_in_fits rules objects by source id (Some object) f e = tt

sifted_of_fits : (rules : Rules) (objects : List Object) (by : Bulk) (source : Option Source) (list : ℕ) → Fits rules objects → OutcomeFits rules objects (bulk.sifted_of by objects source list)
sifted_of_fits rules objects by source list f =
    open_fits rules objects list (with_one (bulk.sifted_by objects by list) source)
    (one_fits rules objects (bulk.sifted_by objects by list) source (λ from e. sifted_in_fits rules objects by from list (slice_get objects list) f.each refl))

held_fits : (rules : Rules) (objects : List Object) (source : Option Container) (list : ℕ) → OutcomeFits rules objects (bulk.contains_all_of objects source list)
held_fits rules objects source list =
    one_fits rules objects (bulk.all_held objects list) source (λ container e. equal_fits rules objects (bulk.all_in objects list container) (flag true) (flag false) tt tt)

does_fits : (rules : Rules) (objects : List Object) (member : Member) (arguments : List Value) → Fits rules objects → AllFit (length objects) arguments → OutcomeFits rules objects (members.does objects member arguments)
does_fits rules objects m.Add arguments f a =
    two_fit {B = Value} rules objects (lists.added objects) (list_at objects arguments 0) (slice_get arguments 1)
    (λ list item e k. open_fits rules objects list _ (value_there (length objects) arguments 1 item a k, tt))
does_fits rules objects m.Clear arguments f a =
    one_fits rules objects (lists.cleared objects) (list_at objects arguments 0) (λ list e. open_fits rules objects list _ (emptied_fits rules objects list (slice_get objects list) f.each refl))
does_fits rules objects m.Contains arguments f a =
    two_fit {B = Value} rules objects (lists.held objects) (list_at objects arguments 0) (slice_get arguments 1)
    (λ list value e k. search_fits rules objects (first_from objects value 0 (items_of objects list)) _ _ (λ at. tt) tt)
does_fits rules objects m.IsEmpty arguments f a = one_fits rules objects (lists.emptiness_given objects) (list_at objects arguments 0) (λ list e. tt)
does_fits rules objects m.Remove arguments f a =
    two_fit {B = Value} rules objects (lists.dropped objects) (list_at objects arguments 0) (slice_get arguments 1)
    (λ list value e k. open_fits rules objects list _ (search_fits rules objects (first_from objects value 0 (items_of objects list)) _ _ (λ at. tt) tt))
does_fits rules objects m.Size arguments f a = one_fits rules objects (lists.size_given objects) (list_at objects arguments 0) (λ list e. tt)
does_fits rules objects m.AddAt arguments f a =
    three_fit {B = ℤ} {C = Value} rules objects (lists.inserted objects) (list_at objects arguments 0) (int_at arguments 1) (slice_get arguments 2)
    (λ list at item e k w. open_fits rules objects list _ (place_fits rules objects (length (items_of objects list)) at (lists.place_into (length (items_of objects list)) at) _ (λ place. (value_there (length objects) arguments 2 item a w, tt))))
does_fits rules objects m.Get arguments f a =
    two_fit {B = ℤ} rules objects (lists.got objects) (list_at objects arguments 0) (int_at arguments 1) (λ list at e k. got_fits rules objects list at f)
does_fits rules objects m.IndexOf arguments f a =
    two_fit {B = Value} rules objects (lists.place_found objects) (list_at objects arguments 0) (slice_get arguments 1)
    (λ list value e k. search_fits rules objects (first_from objects value 0 (items_of objects list)) _ _ (λ at. tt) tt)
does_fits rules objects m.RemoveAt arguments f a =
    two_fit {B = ℤ} rules objects (lists.cut_out objects) (list_at objects arguments 0) (int_at arguments 1)
    (λ list at e k. open_fits rules objects list _ (place_fits rules objects (length (items_of objects list)) at (lists.place_of (length (items_of objects list)) at) _ (λ place. tt)))
does_fits rules objects m.Set arguments f a =
    three_fit {B = ℤ} {C = Value} rules objects (lists.written objects) (list_at objects arguments 0) (int_at arguments 1) (slice_get arguments 2)
    (λ list at item e k w. open_fits rules objects list _ (place_fits rules objects (length (items_of objects list)) at (lists.place_of (length (items_of objects list)) at) _
    (λ place. (value_there (length objects) arguments 2 item a w, named_takes rules.typed (kinds objects) objects item (object_at arguments 0) list e))))
does_fits rules objects m.ToArray arguments f a =
    one_fits {A = Container} rules objects (taking.array_taken objects) (collection_at objects arguments 0) (λ container e. array_taken_fits rules objects container f (collection_fits rules objects arguments 0 container f e))
does_fits rules objects m.LastIndexOf arguments f a =
    two_fit {B = Value} rules objects (lists.last_place_found objects) (list_at objects arguments 0) (slice_get arguments 1)
    (λ list value e k. search_fits rules objects (last_before objects value (items_of objects list) (length (items_of objects list))) _ _ (λ at. tt) tt)
does_fits rules objects m.AsList arguments f a =
    one_fits {A = Container} rules objects (taking.as_list_of objects) (collection_at objects arguments 0) (λ container e. as_list_fits rules objects arguments 0 container f e)
does_fits rules objects m.NewList arguments f a = new_list_fits rules objects
does_fits rules objects m.NewListOf arguments f a =
    one_fits {A = Container} rules objects (taking.list_taken objects) (collection_at objects arguments 0) (λ container e. list_taken_fits rules objects container f (collection_fits rules objects arguments 0 container f e))
does_fits rules objects m.EmptyList arguments f a = empty_list_fits rules objects
does_fits rules objects m.EmptyMap arguments f a = empty_map_fits rules objects
does_fits rules objects m.Reverse arguments f a =
    one_fits rules objects (lists.reversed objects) (list_at objects arguments 0) (λ list e. open_fits rules objects list _ (reversed_fits rules objects list (slice_get objects list) f.each refl))
does_fits rules objects m.Swap arguments f a =
    three_fit {B = ℤ} {C = ℤ} rules objects (lists.swapped objects) (list_at objects arguments 0) (int_at arguments 1) (int_at arguments 2)
    (λ list at other_at e k w. open_fits rules objects list _ (place_fits rules objects (length (items_of objects list)) at (lists.place_of (length (items_of objects list)) at) _
    (λ place. place_fits rules objects (length (items_of objects list)) other_at (lists.place_of (length (items_of objects list)) other_at) _
    (λ other_place. places_fit rules objects (object_at arguments 0) list place other_place f e))))
does_fits rules objects m.Max arguments f a =
    one_fits {A = Container} rules objects (extreme_of Greatest objects) (collection_at objects arguments 0) (λ container e. extreme_fits rules objects Greatest container f (collection_fits rules objects arguments 0 container f e))
does_fits rules objects m.Min arguments f a =
    one_fits {A = Container} rules objects (extreme_of Least objects) (collection_at objects arguments 0) (λ container e. extreme_fits rules objects Least container f (collection_fits rules objects arguments 0 container f e))
does_fits rules objects m.Sort arguments f a = one_fits rules objects (sorted objects) (list_at objects arguments 0) (λ list e. sorted_fits rules objects list f)
does_fits rules objects m.ContainsAll arguments f a =
    one_fits rules objects (bulk.contains_all_of objects (collection_at objects arguments 1)) (list_at objects arguments 0) (λ list e. held_fits rules objects (collection_at objects arguments 1) list)
does_fits rules objects m.RemoveAll arguments f a =
    one_fits rules objects (bulk.sifted_of Remove objects (source_at objects arguments 1)) (list_at objects arguments 0) (λ list e. sifted_of_fits rules objects Remove (source_at objects arguments 1) list f)
does_fits rules objects m.RetainAll arguments f a =
    one_fits rules objects (bulk.sifted_of Retain objects (source_at objects arguments 1)) (list_at objects arguments 0) (λ list e. sifted_of_fits rules objects Retain (source_at objects arguments 1) list f)
does_fits rules objects m.SingletonList arguments f a =
    one_fits {A = Value} rules objects making.list_of_one (slice_get arguments 0) (λ item e. one_list_fits rules objects item (value_there (length objects) arguments 0 item a e))

found_fits : (rules : Rules) (objects : List Object) (found : Option Member) (arguments : List Value) → Fits rules objects → AllFit (length objects) arguments → OutcomeFits rules objects (members.does_found objects found arguments)
found_fits rules objects None arguments f a = tt
found_fits rules objects (Some member) arguments f a = does_fits rules objects member arguments f a

chosen_fits : (rules : Rules) (objects : List Object) (one two : Bool) (a b c : Told) → ToldFits rules objects a → ToldFits rules objects b → ToldFits rules objects c → ToldFits rules objects (if one then a else (if two then b else c))
chosen_fits rules objects true two a b c f g h = f
chosen_fits rules objects false true a b c f g h = g
chosen_fits rules objects false false a b c f g h = h

pub comes_fits : (rules : Rules) (objects : List Object) (number : ℕ) (arguments : List Value) → Fits rules objects → AllFit (length objects) arguments → ToldFits rules objects (members.comes_to objects number arguments)
comes_fits rules objects number arguments f a =
    chosen_fits rules objects (number == 98) (number == 114) (taking.add_all objects arguments) (taking.add_all_at objects arguments) (Says (members.does_numbered objects number arguments))
    (add_all_fits rules objects arguments f) (add_all_at_fits rules objects arguments f) (found_fits rules objects (members.numbered number) arguments f a)
