-- What the members that take all elements of a collection come to fits the store.
use Rattle.std.proofs.Common.{◌≡◌, ℕ, zero, suc, ◌==◌, ◌≤◌, ◌<◌, ℤ, Bool, true, false, Option, Some, None, List, [], ◌∷◌, ◌++◌, length, take, drop, refl, ap, sym, ◌∙◌, subst, arith, slice_get, if◌then◌else◌, length-append}
use Rattle.std.proofs.lemmas.Bool.{cond_both, eqb-true}
use Rattle.std.proofs.lemmas.Option.{slice_get_within}
use Rattle.pl_types.specs.declared.classes.TheConstants.{ARRAY_LIST}
use Rattle.pl_types.specs.declared.ty.Ty.TheFolds.{fold-roll-Ty}
use Rattle.pl_types.specs.declared.ty.Ty.TheOpen.{Ty-F}
use Rattle.pl_types.specs.declared.ty.Ty.{Ty, out-Ty}
use Rattle.pl_types.specs.declared.ty.Ty.TheVariants.{Def, outs-Def, rolls-Def}
use Rattle.pl_types.specs.Classes.{class_is_below, lineage_of, parents_of, class_row, class_table}
use Rattle.object_values.specs.declared.object.Guard.TheVariants as g
use Rattle.object_values.specs.declared.object.Object.{Object}
use Rattle.object_values.specs.declared.object.Object.TheVariants as o
use Rattle.object_values.specs.declared.value.Value.{Value}
use Rattle.object_values.specs.declared.value.Value.TheVariants as v
use Rattle.object_heap.specs.Effects as effects
use Rattle.object_heap.specs.Fits.{Rules, Typed, Every, Primitives, Fits, AllFit, AreElements, EffectFits, ObjectFits, has_layer, is_element, is_type, kinds, layer_asked, layer_is_type}
use Rattle.object_heap.specs.Objects.{Kind, changed_by, renewed_by}
use Rattle.object_heap.specs.Parts.{frozen_of, guard_of, items_of, open_at}
use Rattle.object_heap.specs.Store.{Store, with_change}
use Rattle.object_heap.proofs.Fitting.{length-kinds, renew_fits}
use Rattle.object_heap.proofs.Keeping.{after_fits}
use Rattle.member_arguments.specs.Arguments.{int_at, object_at}
use Rattle.container_parts.specs.Containers.{container_at, container_named, if_container}
use Rattle.container_parts.specs.declared.containers.Container.{Container}
use Rattle.container_parts.specs.declared.containers.Container.TheVariants as c
use Rattle.container_parts.proofs.Standing.{ContainerFits, container_fits}
use Rattle.container_values.specs.Elements.{collection_at, entries_of, entry_keys_of, entry_references, if_collection, references, taken, values_of}
use Rattle.container_values.proofs.Fitting.{entries_fit, entry_references_fit, joined_fit, taken_fit, values_fit, values_more}
use Rattle.container_outcomes.specs.declared.outcome.Outcome.TheVariants as outcome
use Rattle.container_outcomes.specs.declared.outcome.Raised.TheVariants as raised
use Rattle.container_outcomes.specs.Guards.{is_open}
use Rattle.container_outcomes.specs.Outcomes.{unsupported}
use Rattle.container_outcomes.specs.Laws.{OutcomeFits}
use Rattle.container_outcomes.proofs.Fitting.{all_counted, object_there, says_fits}
use Rattle.container_outcomes.proofs.Settling.{settled}
use Rattle.api_list.specs.declared.told.Told.{Told}
use Rattle.api_list.specs.declared.told.Told.TheVariants.{Says, Enters}
use Rattle.api_list.specs.Arguments.{list_at}
use Rattle.api_list.specs.Lists.{place_into}
use Rattle.api_list.specs.Taking as taking

-- ---- collections

collection_is : (found : Option Container) (container : Container) → if_collection found ≡ Some container → found ≡ Some container
collection_is None container h = cc
collection_is (Some (c.Items id)) container h = h
collection_is (Some (c.Array id)) container h = cc
collection_is (Some (c.Keys id)) container h = h
collection_is (Some (c.Shown map part)) container h = h

named_fits : (rules : Rules) (objects : List Object) (named : Option ℕ) (container : Container) → Fits rules objects → container_named objects named ≡ Some container → ContainerFits (kinds objects) (Some container)
named_fits rules objects None container f h = cc
named_fits rules objects (Some id) container f h = subst (ContainerFits (kinds objects)) h (container_fits rules objects id f)

pub collection_fits : (rules : Rules) (objects : List Object) (arguments : List Value) (at : ℕ) (container : Container) → Fits rules objects → collection_at objects arguments at ≡ Some container → ContainerFits (kinds objects) (Some container)
collection_fits rules objects arguments at container f h = named_fits rules objects (object_at arguments at) container f (collection_is (container_at objects arguments at) container h)

items_found : (objects : List Object) (at id : ℕ) (found : Option Object) → slice_get objects at ≡ found → if_container at found ≡ Some (c.Items id) → id < length objects
items_found objects at id None e h = cc
items_found objects at id (Some (o.List class items guard changes)) e h = let same : at ≡ id = cc in subst (λ (n : ℕ). n < length objects) same (slice_get_within objects at _ e)
items_found objects at id (Some object) e h = cc

items_there : (objects : List Object) (named : Option ℕ) (id : ℕ) → container_named objects named ≡ Some (c.Items id) → id < length objects
items_there objects None id h = cc
items_there objects (Some at) id h = items_found objects at id (slice_get objects at) refl h

-- ---- new lists and arrays

-- an array of values of any type
of_layer : (typed : Typed) (ks : List Kind) (elem : Ty) (layer : Ty-F Ty) (value : Value) → out-Ty elem ≡ layer → (if layer_asked typed layer then has_layer ks layer value else true) ≡ true
    → is_element typed ks elem value ≡ true
of_layer typed ks elem layer value e h = subst (λ (found : Ty-F Ty). (if layer_asked typed found then has_layer ks found value else true) ≡ true) (sym e) h

any_layer : (typed : Typed) (ks : List Kind) (value : Value) → (if layer_asked typed Ty-F.Def then has_layer ks Ty-F.Def value else true) ≡ true
any_layer Every ks value = refl
any_layer Primitives ks value = refl

any_element : (typed : Typed) (ks : List Kind) (value : Value) → is_element typed ks Def value ≡ true
any_element typed ks value = of_layer typed ks Def Ty-F.Def value outs-Def (any_layer typed ks value)

any_elements : (typed : Typed) (ks : List Kind) (items : List Value) → AreElements typed ks Def items
any_elements typed ks [] = tt
any_elements typed ks (item ∷ items) = (any_element typed ks item, any_elements typed ks items)

def_is : is_type Def ≡ true
unfolding is_type
def_is = ap is_type (sym rolls-Def) ∙ fold-roll-Ty Bool layer_is_type Ty-F.Def

list_of_fits : (rules : Rules) (objects : List Object) (items : List Value) → AllFit (length objects) items → ObjectFits rules (kinds objects) (o.List ARRAY_LIST items g.Open 0)
unfolding class_is_below lineage_of parents_of class_row class_table
list_of_fits rules objects items h = (refl, all_counted objects items h)

pub list_taken_fits : (rules : Rules) (objects : List Object) (container : Container) → Fits rules objects → ContainerFits (kinds objects) (Some container) → OutcomeFits rules objects (taking.list_taken objects container)
list_taken_fits rules objects container f h =
    (entries_fit rules objects container f h, list_of_fits rules (objects ++ entries_of objects container) (taken objects container) (taken_fit rules objects container f h))

pub array_taken_fits : (rules : Rules) (objects : List Object) (container : Container) → Fits rules objects → ContainerFits (kinds objects) (Some container) → OutcomeFits rules objects (taking.array_taken objects container)
array_taken_fits rules objects container f h =
    let all : List Object = objects ++ entries_of objects container in
    (entries_fit rules objects container f h, (def_is, all_counted all (taken objects container) (taken_fit rules objects container f h), any_elements rules.typed (kinds all) (taken objects container)))

pub as_list_fits : (rules : Rules) (objects : List Object) (arguments : List Value) (at : ℕ) (container : Container) → Fits rules objects → collection_at objects arguments at ≡ Some container → OutcomeFits rules objects (taking.as_list_of objects container)
as_list_fits rules objects arguments at (c.Items id) f h = items_there objects (object_at arguments at) id (collection_is (container_at objects arguments at) (c.Items id) h)
as_list_fits rules objects arguments at (c.Array id) f h = list_taken_fits rules objects (c.Array id) f (collection_fits rules objects arguments at (c.Array id) f h)
as_list_fits rules objects arguments at (c.Keys id) f h = list_taken_fits rules objects (c.Keys id) f (collection_fits rules objects arguments at (c.Keys id) f h)
as_list_fits rules objects arguments at (c.Shown map part) f h = list_taken_fits rules objects (c.Shown map part) f (collection_fits rules objects arguments at (c.Shown map part) f h)

-- ---- addAll

front_fit : (n at : ℕ) (values : List Value) → AllFit n values → AllFit n (take at values)
front_fit n zero values f = tt
front_fit n (suc at) [] f = tt
front_fit n (suc at) (value ∷ values) f = (f.0, front_fit n at values f.1)

back_fit : (n at : ℕ) (values : List Value) → AllFit n values → AllFit n (drop at values)
back_fit n zero values f = f
back_fit n (suc at) [] f = tt
back_fit n (suc at) (value ∷ values) f = back_fit n at values f.1

list_grown_fits : (rules : Rules) (objects : List Object) (container : Container) (at list : ℕ) (found : Option Object) (object : Object) → Fits rules objects → slice_get objects list ≡ found
    → taking.grown at (entry_references objects container) found ≡ Some object → ObjectFits rules (kinds (objects ++ entries_of objects container)) object
list_grown_fits rules objects container at list None object f e h = cc
list_grown_fits rules objects container at list (Some (o.List class items guard changes)) object f e h =
    let all : List Object = objects ++ entries_of objects container in
    let more : List Value = entry_references objects container in
    let there : ObjectFits rules (kinds objects) (o.List class items guard changes) = object_there rules (kinds objects) objects list (o.List class items guard changes) f.each e in
    let same : o.List class (take at items ++ more ++ drop at items) g.Open (changed_by changes (length more)) ≡ object = cc in
    let short : length (kinds objects) ≤ length all = omega (arith, length-kinds objects, length-append objects (entries_of objects container)) in
    let own : AllFit (length all) items = values_more (length (kinds objects)) (length all) items short there.1 in
    subst (ObjectFits rules (kinds all)) same (
      there.0,
      all_counted all (take at items ++ more ++ drop at items)
          (joined_fit (length all) (take at items ++ more) (drop at items) (joined_fit (length all) (take at items) more (front_fit (length all) at items own) (entry_references_fit rules objects container)) (back_fit (length all) at items own)),
    )
list_grown_fits rules objects container at list (Some object') object f e h = cc

open_grown_fits : (rules : Rules) (objects : List Object) (container : Container) (at list : ℕ) (object : Object) → Fits rules objects
    → taking.grown at (entry_references objects container) (open_at objects list) ≡ Some object → ObjectFits rules (kinds (objects ++ entries_of objects container)) object
open_grown_fits rules objects container at list object f =
    cond_both (frozen_of objects list) None (slice_get objects list)
    (λ (found : Option Object). taking.grown at (entry_references objects container) found ≡ Some object → ObjectFits rules (kinds (objects ++ entries_of objects container)) object) (λ _. λ e. cc)
    (λ _. λ e. list_grown_fits rules objects container at list (slice_get objects list) object f refl e)

entered_as_fits : (rules : Rules) (store : Store) (list : ℕ) (container : Container) (grown : Option Object) → Fits rules store.objects → ContainerFits (kinds store.objects) (Some container)
    → ((object : Object) → grown ≡ Some object → ObjectFits rules (kinds (store.objects ++ entries_of store.objects container)) object) → EffectFits rules (taking.entered_as store list container grown)
entered_as_fits rules store list container None f h k = (f, tt)
entered_as_fits rules store list container (Some object) f h k =
    after_fits rules store (with_change (store.objects ++ entries_of store.objects container) list (renewed_by object)) 0 (λ paid. effects.Gives (v.Bool true) paid)
    (λ room. (renew_fits rules (store.objects ++ entries_of store.objects container) list object (entries_fit rules store.objects container f h) (k object refl), tt))

entered_fits : (rules : Rules) (store : Store) (list at : ℕ) (container : Container) → Fits rules store.objects → ContainerFits (kinds store.objects) (Some container) → EffectFits rules (taking.entered store list at container)
entered_fits rules store list at container f h =
    entered_as_fits rules store list container (taking.grown at (entry_references store.objects container) (open_at store.objects list)) f h
    (λ object e. open_grown_fits rules store.objects container at list object f e)

-- what is told fits
abbrev pub ToldFits : Rules → List Object → Told → Type 0
ToldFits rules objects (Says told) = OutcomeFits rules objects told
ToldFits rules objects (Enters list at container) = ContainerFits (kinds objects) (Some container)

pub told_settled : (rules : Rules) (store : Store) (told : Told) → Fits rules store.objects → ToldFits rules store.objects told → EffectFits rules (taking.told_effect store told)
told_settled rules store (Says told) f h = settled rules store told f h
told_settled rules store (Enters list at container) f h = entered_fits rules store list at container f h

added_if : (rules : Rules) (objects : List Object) (list at : ℕ) (container : Container) (none : Bool) → (none ≡ true → AllFit (length objects) (taken objects container)) → ContainerFits (kinds objects) (Some container)
    → ToldFits rules objects (if none then Says (outcome.Extends list at (taken objects container) (v.Bool (taking.has_any (taken objects container)))) else Enters list at container)
added_if rules objects list at container true h k = (h refl, tt)
added_if rules objects list at container false h k = k

none_of : (keys : List Value) → (length keys == 0) ≡ true → length keys ≡ 0
none_of [] h = refl
none_of (key ∷ keys) h = eqb-true (length (key ∷ keys)) 0 h

-- what is taken where there are no entries
taken_alone : (rules : Rules) (objects : List Object) (container : Container) → Fits rules objects → ContainerFits (kinds objects) (Some container) → length (entry_keys_of objects container) ≡ 0
    → AllFit (length objects) (taken objects container)
taken_alone rules objects container f h e =
    subst (λ (n : ℕ). AllFit (length objects) (values_of objects container ++ references (length objects) n)) (sym e)
    (joined_fit (length objects) (values_of objects container) [] (values_fit rules objects container f h) tt)

all_added_fits : (rules : Rules) (objects : List Object) (list at : ℕ) (container : Container) → Fits rules objects → ContainerFits (kinds objects) (Some container) → ToldFits rules objects (taking.all_added objects list at container)
all_added_fits rules objects list at container f h =
    added_if rules objects list at container (length (entry_keys_of objects container) == 0)
    (λ e. taken_alone rules objects container f h (none_of (entry_keys_of objects container) e)) h

open_told : (rules : Rules) (objects : List Object) (told : Told) (is : Bool) → ToldFits rules objects told → ToldFits rules objects (if is then told else Says unsupported)
open_told rules objects told true h = h
open_told rules objects told false h = tt

from_fits : (rules : Rules) (objects : List Object) (list at : ℕ) (source : Option Container) → Fits rules objects → ((container : Container) → source ≡ Some container → ContainerFits (kinds objects) (Some container))
    → ToldFits rules objects (taking.added_from objects list source at)
from_fits rules objects list at None f h = tt
from_fits rules objects list at (Some container) f h = all_added_fits rules objects list at container f (h container refl)

place_told : (rules : Rules) (objects : List Object) (count : ℕ) (at : ℤ) (place : Option ℕ) (next : ℕ → Told) → ((at : ℕ) → ToldFits rules objects (next at)) → ToldFits rules objects (taking.told_place count at place next)
place_told rules objects count at None next h = says_fits rules objects raised.IndexOutOfBounds _
place_told rules objects count at (Some place) next h = h place

one_told : {A : Type 0} → (rules : Rules) (objects : List Object) (f : A → Told) (a : Option A) → ((x : A) → ToldFits rules objects (f x)) → ToldFits rules objects (taking.told_one f a)
one_told rules objects f None h = tt
one_told rules objects f (Some x) h = h x

two_told : {A B : Type 0} → (rules : Rules) (objects : List Object) (f : A → B → Told) (a : Option A) (b : Option B) → ((x : A) (y : B) → ToldFits rules objects (f x y)) → ToldFits rules objects (taking.told_two f a b)
two_told rules objects f None b h = tt
two_told rules objects f (Some x) None h = tt
two_told rules objects f (Some x) (Some y) h = h x y

pub add_all_fits : (rules : Rules) (objects : List Object) (arguments : List Value) → Fits rules objects → ToldFits rules objects (taking.add_all objects arguments)
add_all_fits rules objects arguments f =
    one_told {A = ℕ} rules objects (taking.end_added objects (collection_at objects arguments 1)) (list_at objects arguments 0)
    (λ list. open_told rules objects (taking.added_from objects list (collection_at objects arguments 1) (length (items_of objects list))) (is_open (guard_of objects list))
    (from_fits rules objects list (length (items_of objects list)) (collection_at objects arguments 1) f (λ container e. collection_fits rules objects arguments 1 container f e)))

pub add_all_at_fits : (rules : Rules) (objects : List Object) (arguments : List Value) → Fits rules objects → ToldFits rules objects (taking.add_all_at objects arguments)
add_all_at_fits rules objects arguments f =
    two_told {A = ℕ} {B = ℤ} rules objects (taking.place_added objects (collection_at objects arguments 2)) (list_at objects arguments 0) (int_at arguments 1)
    (λ list at. open_told rules objects
    (taking.told_place (length (items_of objects list)) at (place_into (length (items_of objects list)) at) (taking.added_from objects list (collection_at objects arguments 2))) (is_open (guard_of objects list))
    (place_told rules objects (length (items_of objects list)) at (place_into (length (items_of objects list)) at) (taking.added_from objects list (collection_at objects arguments 2))
    (λ place. from_fits rules objects list place (collection_at objects arguments 2) f (λ container e. collection_fits rules objects arguments 2 container f e))))
