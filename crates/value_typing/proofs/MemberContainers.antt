-- What members of containers give is of their types, where that is a reference.
use Rattle.std.proofs.Common.{arith, ◌≡◌, ◌<◌, ◌+◌, ℕ, zero, suc, ◌==◌, Bool, true, false, Option, Some, None, List, [], ◌∷◌, ◌++◌, length, get_or, map, refl, sym, ap, ◌∙◌, subst, slice_get, is_some, if◌then◌else◌, length-append}
use Rattle.std.specs.List.{range_with_len}
use Rattle.std.proofs.lemmas.Bool.{cond-true, or_right}
use Rattle.std.proofs.lemmas.List.FromFn.{get_or-map-range_with_len}
use Rattle.std.proofs.lemmas.Option.{slice_get_within}
use Rattle.pl_types.specs.declared.classes.TheConstants.{ARRAY_LIST, HASH_MAP, ITERATOR, LIST, MAP, OBJECT}
use Rattle.pl_types.specs.declared.ty.Ty.{Ty, out-Ty}
use Rattle.pl_types.specs.declared.ty.Ty.TheOpen.{Ty-F}
use Rattle.pl_types.specs.declared.ty.Ty.TheVariants as ty
use Rattle.pl_types.specs.Classes.{class_is_below, lineage_of, parents_of, class_row, class_table}
use Rattle.allowlist.specs.declared.member.MemberType.{MemberType}
use Rattle.allowlist.specs.Catalogue.{catalogue}
use Rattle.allowlist.proofs.Tables.{length-catalogue}
use Rattle.object_values.specs.declared.object.Object.{Object}
use Rattle.object_values.specs.declared.object.Object.TheVariants as o
use Rattle.object_values.specs.declared.value.Value.{Value}
use Rattle.object_values.specs.declared.value.Value.TheVariants as v
use Rattle.object_heap.specs.Effects.{Effect, Gives}
use Rattle.object_heap.specs.Fits.{kinds, passes, class_is_of, class_of_kind, class_of_view, kind_is_of, Rules, Fits, ObjectFits, ObjectsFit}
use Rattle.object_heap.specs.Objects.{Kind, AList, AMap, ASet, AView, AnIterator, kind_of}
use Rattle.object_heap.specs.Store.{Store}
use Rattle.object_heap.proofs.Fitting.{length-kinds}
use Rattle.container_calls.specs.Arguments.{object_at}
use Rattle.api_map.specs.Containers.{changes_now, container_of, container_named, if_container}
use Rattle.api_map.specs.Iterators as iterators
use Rattle.api_map.specs.container_parts_declared.containers.Container.{Container}
use Rattle.api_map.specs.Elements.{collection_at, if_collection}
use Rattle.container_outcomes.specs.declared.outcome.Outcome.{Outcome}
use Rattle.container_outcomes.specs.declared.outcome.Outcome.TheVariants as outcome
use Rattle.container_outcomes.specs.Choices.{with_one}
use Rattle.container_outcomes.specs.Outcomes.{effect, gives_made, not_simple, number_of, says}
use Rattle.api_text.specs.Members as texts
use Rattle.api_text.specs.Outcomes as text_outcomes
use Rattle.api_text.specs.declared.member.Member.{Member as TextMember}
use Rattle.api_text.specs.declared.member.Member.TheVariants as text
use Rattle.container_calls.specs.api_iter_declared.joining.TheConstants.{STRING_JOIN}
use Rattle.container_calls.specs.api_iter_declared.member.Member.{Member as IterableMember}
use Rattle.container_calls.specs.api_iter_declared.member.Member.TheVariants as i
use Rattle.container_calls.specs.Iterating as iterating
use Rattle.container_calls.specs.ApiIterMembers as iterables
use Rattle.api_list.specs.declared.member.Member.{Member as ListMember}
use Rattle.api_list.specs.declared.member.Member.TheVariants as l
use Rattle.api_list.specs.declared.told.Told.{Told}
use Rattle.api_list.specs.declared.told.Told.TheVariants.{Says}
use Rattle.api_list.specs.Making as list_making
use Rattle.api_list.specs.Members as lists
use Rattle.api_list.specs.Taking as taking
use Rattle.api_map.specs.declared.making.MapClass.{MapClass}
use Rattle.api_map.specs.declared.making.SetClass.{SetClass}
use Rattle.api_map.specs.declared.member.Member.{Member as MapMember}
use Rattle.api_map.specs.declared.member.Member.TheVariants as m
use Rattle.api_map.specs.declared.member.Telling.{Telling}
use Rattle.api_map.specs.declared.member.Telling.TheVariants as t
use Rattle.api_map.specs.declared.sources.Source.{Source}
use Rattle.api_map.specs.Arguments.{map_at}
use Rattle.api_map.specs.Making.{number_of_map, number_of_set}
use Rattle.api_map.specs.Maps as mapping
use Rattle.api_map.specs.Members as maps
use Rattle.api_map.specs.Sources.{are_keys, source_at}
use Rattle.api_map.specs.Whole as whole
use Rattle.container_calls.specs.declared.family.Family.{Family}
use Rattle.container_calls.specs.declared.family.Family.TheVariants.{Iterables, Lists, Maps}
use Rattle.container_calls.specs.Members.{act_of, does_container, family_of, has, is_of_containers, is_on_list, list_has}
use Rattle.container_calls.proofs.LeavingTexts.{text_member_leaves}
use Rattle.container_calls.proofs.There.{kinds-added}
use Rattle.container_calls.proofs.Types.{family_has}
use Rattle.value_typing.specs.Typing.{is_typed_layer}
use Rattle.value_typing.proofs.Effects.{EffectTyped, thrown_typed}
use Rattle.value_typing.proofs.MemberTables.{string, in_row, reference_in}
use Rattle.value_typing.proofs.MemberTexts.{NewIsOf, at_end, new_of_class, new_array_of, new_typed, paid_typed, text_found_typed}

-- ---- outcomes of members that give a reference: one that is there, or a new object

abbrev pub OutcomeTyped : List Object → Ty → Outcome → Type 0
OutcomeTyped objects of (outcome.Gives value) = is_typed_layer (kinds objects) (out-Ty of) value ≡ true
OutcomeTyped objects of (outcome.New object) = NewIsOf (out-Ty of) (kind_of object)
OutcomeTyped objects of (outcome.Makes before object) = NewIsOf (out-Ty of) (kind_of object)
OutcomeTyped objects of (outcome.Throws raised message) = Unit {0}
OutcomeTyped objects of told = ⊥

-- a new object behind others that it needs
made_typed : (layer : Ty-F Ty) (store : Store) (before : List Object) (object : Object) → NewIsOf layer (kind_of object) → EffectTyped layer (gives_made store before object)
made_typed layer store before object h =
    paid_typed layer store (store.objects ++ before ++ object ∷ []) 0 (λ paid. Gives (v.Ref (length store.objects + length before)) paid) (λ room.
    subst (λ (ks : List Kind). is_typed_layer ks layer (v.Ref (length store.objects + length before)) ≡ true) (sym (kinds-added (store.objects ++ before) (object ∷ [])))
    (subst (λ (n : ℕ). is_typed_layer (kinds (store.objects ++ before) ++ kind_of object ∷ []) layer (v.Ref n) ≡ true)
    (length-kinds (store.objects ++ before) ∙ length-append store.objects before) (h (kinds (store.objects ++ before)))))

pub settled : (of : Ty) (store : Store) (told : Outcome) → OutcomeTyped store.objects of told → EffectTyped (out-Ty of) (effect store told)
settled of store (outcome.Gives value) h = h
settled of store (outcome.New object) h = new_typed (out-Ty of) store object 0 h
settled of store (outcome.Makes before object) h = made_typed (out-Ty of) store before object h
settled of store (outcome.Throws raised message) h = thrown_typed (out-Ty of) store (number_of raised) message
settled of store told h = absurd h

one_typed : {A : Type 0} → (objects : List Object) (of : Ty) (f : A → Outcome) (a : Option A) → ((x : A) → OutcomeTyped objects of (f x)) → OutcomeTyped objects of (with_one f a)
one_typed objects of f None h = tt
one_typed objects of f (Some x) h = h x

-- a type is the one that a row has
in_row_of : (objects : List Object) (a b : Ty) (told : Outcome) → Some a ≡ Some b → OutcomeTyped objects a told → OutcomeTyped objects b told
in_row_of objects a b told e h = let same : a ≡ b = cc in subst (λ (of : Ty). OutcomeTyped objects of told) same h

-- a new object of a class, and of one below a class
pub new_of : (class : ℕ) (kind : Kind) → class_of_kind kind ≡ Some class → NewIsOf (out-Ty (ty.Class class)) kind
unfolding out-Ty denote.Hole.Carrier.out
new_of class kind e = new_of_class class kind e

new_below : (class own : ℕ) (kind : Kind) → class_of_kind kind ≡ Some own → class_is_below own class ≡ true → NewIsOf (out-Ty (ty.Class class)) kind
unfolding out-Ty denote.Hole.Carrier.out
new_below class own kind e b others =
    subst (λ (found : Option Kind). passes (kind_is_of class) found ≡ true) (sym (at_end others kind))
    (or_right (class == OBJECT) (class_is_of class (class_of_kind kind)) (ap (class_is_of class) e ∙ b))

list_below : class_is_below ARRAY_LIST LIST ≡ true
unfolding class_is_below lineage_of parents_of class_row class_table
list_below = refl

-- ---- lists

-- the object at a place fits
there_fits : (rules : Rules) (ks : List Kind) (objects : List Object) (id : ℕ) (object : Object) → ObjectsFit rules ks objects → slice_get objects id ≡ Some object → ObjectFits rules ks object
there_fits rules ks [] id object f e = cc
there_fits rules ks (x ∷ objects) zero object f e = let same : x ≡ object = cc in subst (λ (y : Object). ObjectFits rules ks y) same f.0
there_fits rules ks (x ∷ objects) (suc id) object f e = there_fits rules ks objects id object f.1 e

kind_there : (objects : List Object) (id : ℕ) (object : Object) → slice_get objects id ≡ Some object → slice_get (kinds objects) id ≡ Some (kind_of object)
kind_there [] id object e = cc
kind_there (x ∷ objects) zero object e = let same : x ≡ object = cc in ap (λ (y : Object). Some (kind_of y)) same
kind_there (x ∷ objects) (suc id) object e = kind_there objects id object e

-- a list that is given itself
list_there : (rules : Rules) (objects : List Object) (id class : ℕ) (object : Object) → Fits rules objects → slice_get objects id ≡ Some object → kind_of object ≡ AList class
    → class_is_below class LIST ≡ true → is_typed_layer (kinds objects) (out-Ty (ty.Class LIST)) (v.Ref id) ≡ true
unfolding out-Ty denote.Hole.Carrier.out
list_there rules objects id class object f e k b =
    subst (λ (found : Option Kind). passes (kind_is_of LIST) found ≡ true) (sym (kind_there objects id object e))
    (or_right (LIST == OBJECT) (class_is_of LIST (class_of_kind (kind_of object))) (ap (λ (kind : Kind). class_is_of LIST (class_of_kind kind)) k ∙ b))

list_made : (objects : List Object) (container : Container) → OutcomeTyped objects (ty.Class LIST) (taking.list_taken objects container)
list_made objects container = new_below LIST ARRAY_LIST (AList ARRAY_LIST) refl list_below

as_list_found : (rules : Rules) (objects : List Object) (id : ℕ) (found : Option Object) → Fits rules objects → slice_get objects id ≡ found
    → OutcomeTyped objects (ty.Class LIST) (with_one (taking.as_list_of objects) (if_collection (if_container id found)))
as_list_found rules objects id None f e = tt
as_list_found rules objects id (Some (o.List class items guard changes)) f e =
    list_there rules objects id class (o.List class items guard changes) f e refl (there_fits rules (kinds objects) objects id (o.List class items guard changes) f.each e).0
as_list_found rules objects id (Some (o.Set class items guard changes)) f e = new_below LIST ARRAY_LIST (AList ARRAY_LIST) refl list_below
as_list_found rules objects id (Some (o.View map part)) f e = new_below LIST ARRAY_LIST (AList ARRAY_LIST) refl list_below
as_list_found rules objects id (Some (o.Array elem items)) f e = tt
as_list_found rules objects id (Some (o.Map class pairs guard changes)) f e = tt
as_list_found rules objects id (Some (o.Entry map key)) f e = tt
as_list_found rules objects id (Some (o.Iter over cursor seen last)) f e = tt
as_list_found rules objects id (Some (o.Builder units)) f e = tt
as_list_found rules objects id (Some (o.Fun iface target captures)) f e = tt
as_list_found rules objects id (Some (o.Exc class message)) f e = tt

as_list_named : (rules : Rules) (objects : List Object) (named : Option ℕ) → Fits rules objects
    → OutcomeTyped objects (ty.Class LIST) (with_one (taking.as_list_of objects) (if_collection (container_named objects named)))
as_list_named rules objects None f = tt
as_list_named rules objects (Some id) f = as_list_found rules objects id (slice_get objects id) f refl

abbrev list_reference : ListMember → Option Ty
list_reference l.ToArray = Some (ty.Array ty.Def)
list_reference l.AsList = Some (ty.Class LIST)
list_reference l.NewList = Some (ty.Class ARRAY_LIST)
list_reference l.NewListOf = Some (ty.Class ARRAY_LIST)
list_reference l.EmptyList = Some (ty.Class LIST)
list_reference l.EmptyMap = Some (ty.Class MAP)
list_reference l.SingletonList = Some (ty.Class LIST)
list_reference other = None

map_below : class_is_below HASH_MAP MAP ≡ true
unfolding class_is_below lineage_of parents_of class_row class_table
map_below = refl

list_typed : (rules : Rules) (objects : List Object) (member : ListMember) (of : Ty) (arguments : List Value) → Fits rules objects → list_reference member ≡ Some of
    → OutcomeTyped objects of (lists.does objects member arguments)
list_typed rules objects l.ToArray of arguments f e =
    in_row_of objects (ty.Array ty.Def) of (lists.does objects l.ToArray arguments) e
    (one_typed {A = Container} objects (ty.Array ty.Def) (taking.array_taken objects) (collection_at objects arguments 0) (λ container. new_array_of ty.Def))
list_typed rules objects l.AsList of arguments f e =
    in_row_of objects (ty.Class LIST) of (lists.does objects l.AsList arguments) e (as_list_named rules objects (object_at arguments 0) f)
list_typed rules objects l.NewList of arguments f e =
    in_row_of objects (ty.Class ARRAY_LIST) of (lists.does objects l.NewList arguments) e (new_of ARRAY_LIST (AList ARRAY_LIST) refl)
list_typed rules objects l.NewListOf of arguments f e =
    in_row_of objects (ty.Class ARRAY_LIST) of (lists.does objects l.NewListOf arguments) e
    (one_typed {A = Container} objects (ty.Class ARRAY_LIST) (taking.list_taken objects) (collection_at objects arguments 0) (λ container. new_of ARRAY_LIST (AList ARRAY_LIST) refl))
list_typed rules objects l.EmptyList of arguments f e =
    in_row_of objects (ty.Class LIST) of (lists.does objects l.EmptyList arguments) e (new_below LIST ARRAY_LIST (AList ARRAY_LIST) refl list_below)
list_typed rules objects l.EmptyMap of arguments f e =
    in_row_of objects (ty.Class MAP) of (lists.does objects l.EmptyMap arguments) e (new_below MAP HASH_MAP (AMap HASH_MAP) refl map_below)
list_typed rules objects l.SingletonList of arguments f e =
    in_row_of objects (ty.Class LIST) of (lists.does objects l.SingletonList arguments) e
    (one_typed {A = Value} objects (ty.Class LIST) list_making.list_of_one (slice_get arguments 0) (λ item. new_below LIST ARRAY_LIST (AList ARRAY_LIST) refl list_below))
list_typed rules objects other of arguments f e = cc

-- ---- sets, views and maps

abbrev telling_reference : Telling → Option Ty
telling_reference (t.NewSet class) = Some (ty.Class (number_of_set class))
telling_reference (t.NewSetOf class) = Some (ty.Class (number_of_set class))
telling_reference (t.View part) = Some (ty.Class (class_of_view part))
telling_reference (t.NewMap class) = Some (ty.Class (number_of_map class))
telling_reference (t.NewMapOf class) = Some (ty.Class (number_of_map class))
telling_reference other = None

abbrev map_reference : MapMember → Option Ty
map_reference (m.Tells telling) = telling_reference telling
map_reference other = None

new_set : (objects : List Object) (class : SetClass) → NewIsOf (out-Ty (ty.Class (number_of_set class))) (ASet (number_of_set class))
new_set objects class = new_of (number_of_set class) (ASet (number_of_set class)) refl

new_map : (objects : List Object) (class : MapClass) → NewIsOf (out-Ty (ty.Class (number_of_map class))) (AMap (number_of_map class))
new_map objects class = new_of (number_of_map class) (AMap (number_of_map class)) refl

pub not_simple_typed : (objects : List Object) (of : Ty) → OutcomeTyped objects of not_simple
unfolding says
not_simple_typed objects of = tt

set_of_typed : (objects : List Object) (class : SetClass) (source : Source) → OutcomeTyped objects (ty.Class (number_of_set class)) (whole.set_of class objects source)
set_of_typed objects class source = either (are_keys objects source)
  where
    either : (keys : Bool) → OutcomeTyped objects (ty.Class (number_of_set class)) (if keys then whole.set_made class objects source else not_simple)
    either true = new_set objects class
    either false = not_simple_typed objects (ty.Class (number_of_set class))

telling_typed : (objects : List Object) (telling : Telling) (of : Ty) (arguments : List Value) → telling_reference telling ≡ Some of → OutcomeTyped objects of (maps.tells objects telling arguments)
telling_typed objects (t.NewSet class) of arguments e =
    in_row_of objects (ty.Class (number_of_set class)) of (maps.tells objects (t.NewSet class) arguments) e (new_set objects class)
telling_typed objects (t.NewSetOf class) of arguments e =
    in_row_of objects (ty.Class (number_of_set class)) of (maps.tells objects (t.NewSetOf class) arguments) e
    (one_typed {A = Source} objects (ty.Class (number_of_set class)) (whole.set_of class objects) (source_at objects arguments 0) (set_of_typed objects class))
telling_typed objects (t.View part) of arguments e =
    in_row_of objects (ty.Class (class_of_view part)) of (maps.tells objects (t.View part) arguments) e
    (one_typed {A = ℕ} objects (ty.Class (class_of_view part)) (mapping.shown part) (map_at objects arguments 0) (λ map. new_of (class_of_view part) (AView part) refl))
telling_typed objects (t.NewMap class) of arguments e =
    in_row_of objects (ty.Class (number_of_map class)) of (maps.tells objects (t.NewMap class) arguments) e (new_map objects class)
telling_typed objects (t.NewMapOf class) of arguments e =
    in_row_of objects (ty.Class (number_of_map class)) of (maps.tells objects (t.NewMapOf class) arguments) e
    (one_typed {A = ℕ} objects (ty.Class (number_of_map class)) (whole.map_of class objects) (map_at objects arguments 0) (λ from. new_map objects class))
telling_typed objects other of arguments e = cc

map_typed : (objects : List Object) (member : MapMember) (of : Ty) (arguments : List Value) → map_reference member ≡ Some of → OutcomeTyped objects of (maps.does objects member arguments)
map_typed objects (m.Tells telling) of arguments e = telling_typed objects telling of arguments e
map_typed objects other of arguments e = cc

-- ---- iterators, and texts that are joined

abbrev iterable_reference : IterableMember → Option Ty
iterable_reference i.Iterator = Some (ty.Class ITERATOR)
iterable_reference i.Join = Some string
iterable_reference other = None

effect_row : (a b : Ty) (e : Effect) → Some a ≡ Some b → EffectTyped (out-Ty a) e → EffectTyped (out-Ty b) e
effect_row a b x e h = let same : a ≡ b = cc in subst (λ (of : Ty). EffectTyped (out-Ty of) x) same h

null_typed : (layer : Ty-F Ty) (store : Store) → EffectTyped layer (iterating.null_error store)
null_typed layer store = thrown_typed layer store _ None

pub over_typed : (store : Store) (id : ℕ) (over : Option Container) → EffectTyped (out-Ty (ty.Class ITERATOR)) (iterators.iterate_over store id over)
over_typed store id None = null_typed (out-Ty (ty.Class ITERATOR)) store
over_typed store id (Some over) =
    new_typed (out-Ty (ty.Class ITERATOR)) store (o.Iter id 0 (changes_now store.objects over) None) 0 (new_of ITERATOR AnIterator refl)

iterator_typed : (store : Store) (found : Option ℕ) → EffectTyped (out-Ty (ty.Class ITERATOR)) (iterating.with_receiver store (iterators.iterate store) found)
iterator_typed store None = null_typed (out-Ty (ty.Class ITERATOR)) store
iterator_typed store (Some id) = over_typed store id (container_of store.objects id)

join_is : texts.numbered STRING_JOIN ≡ Some text.Join
unfolding texts.numbered texts.of_sequences texts.of_texts texts.of_exceptions
join_is = refl

joined_text : (store : Store) (arguments : List Value) → EffectTyped (out-Ty string) (text_outcomes.effect store (texts.does_numbered store.objects STRING_JOIN arguments))
joined_text store arguments =
    subst (λ (found : Option TextMember). EffectTyped (out-Ty string) (text_outcomes.effect store (texts.does_found store.objects found arguments))) (sym join_is)
    (text_found_typed store (Some text.Join) string arguments refl (λ never. cc) (text_member_leaves store (texts.does_found store.objects (Some text.Join) arguments)))

joined_typed : (store : Store) (receiver between : Option Value) → EffectTyped (out-Ty string) (iterating.joined_by store receiver between)
joined_typed store None between = null_typed (out-Ty string) store
joined_typed store (Some receiver) None = null_typed (out-Ty string) store
joined_typed store (Some receiver) (Some between) = joined_text store (between ∷ receiver ∷ [])

iterable_typed : (store : Store) (member : IterableMember) (of : Ty) (arguments : List Value) → iterable_reference member ≡ Some of → EffectTyped (out-Ty of) (iterables.does store member arguments)
iterable_typed store i.Iterator of arguments e =
    effect_row (ty.Class ITERATOR) of (iterables.does store i.Iterator arguments) e (iterator_typed store (object_at arguments 0))
iterable_typed store i.Join of arguments e =
    effect_row string of (iterables.does store i.Join arguments) e (joined_typed store (slice_get arguments 0) (slice_get arguments 1))
iterable_typed store other of arguments e = cc

-- ---- rows of the catalogue

abbrev row_of : {A : Type 0} → (A → Option Ty) → Option A → Option Ty
row_of reference None = None
row_of reference (Some member) = reference member

abbrev catalogue_row : (ℕ → Bool) → ℕ → Option Ty
catalogue_row holds n = if holds n then in_row (slice_get catalogue n) else None

row_at : (row : ℕ → Option Ty) (holds : ℕ → Bool) → map row (range_with_len 0 228) ≡ map (catalogue_row holds) (range_with_len 0 228) → (n : ℕ) (member : MemberType) → holds n ≡ true
    → slice_get catalogue n ≡ Some member → row n ≡ reference_in member.result
row_at row holds all n member is h =
    let within : n < length catalogue = slice_get_within catalogue n member h in
    let small : n < 228 = omega (arith, length-catalogue, within) in
    sym (get_or-map-range_with_len row 0 228 n n None small (omega arith)) ∙ ap (λ rows. get_or rows n None) all ∙ get_or-map-range_with_len (catalogue_row holds) 0 228 n n None small (omega arith)
    ∙ cond-true (holds n) (in_row (slice_get catalogue n)) None is ∙ ap in_row h

-- addAll gives a flag, at the end of a list and at a place
abbrev list_row : ℕ → Option Ty
list_row n = if n == 98 then None else (if n == 114 then None else row_of list_reference (lists.numbered n))

list_rows : map list_row (range_with_len 0 228) ≡ map (catalogue_row list_has) (range_with_len 0 228)
unfolding lists.numbered lists.of_lists lists.of_makers catalogue out-Ty denote.Hole.Carrier.out
list_rows = refl

abbrev has_map : ℕ → Bool
has_map n = is_some (maps.numbered n)

map_rows : map (λ n. row_of map_reference (maps.numbered n)) (range_with_len 0 228) ≡ map (catalogue_row has_map) (range_with_len 0 228)
unfolding maps.numbered maps.of_collections maps.of_maps maps.of_entries catalogue out-Ty denote.Hole.Carrier.out
map_rows = refl

abbrev has_iterable : ℕ → Bool
has_iterable n = is_some (iterables.numbered n)

iterable_rows : map (λ n. row_of iterable_reference (iterables.numbered n)) (range_with_len 0 228) ≡ map (catalogue_row has_iterable) (range_with_len 0 228)
unfolding iterables.numbered catalogue out-Ty denote.Hole.Carrier.out
iterable_rows = refl

-- ---- all

list_chosen_typed : (rules : Rules) (store : Store) (one two : Bool) (found : Option ListMember) (a b : Told) (arguments : List Value) (of : Ty) → Fits rules store.objects
    → (if one then None else (if two then None else row_of list_reference found)) ≡ Some of
    → EffectTyped (out-Ty of) (taking.told_effect store (if one then a else (if two then b else Says (lists.does_found store.objects found arguments))))
list_chosen_typed rules store true two found a b arguments of f e = cc
list_chosen_typed rules store false true found a b arguments of f e = cc
list_chosen_typed rules store false false None a b arguments of f e = cc
list_chosen_typed rules store false false (Some member) a b arguments of f e =
    settled of store (lists.does store.objects member arguments) (list_typed rules store.objects member of arguments f e)

map_found_typed : (store : Store) (found : Option MapMember) (of : Ty) (arguments : List Value) → row_of map_reference found ≡ Some of → EffectTyped (out-Ty of) (effect store (maps.does_found store.objects found arguments))
map_found_typed store None of arguments e = cc
map_found_typed store (Some member) of arguments e = settled of store (maps.does store.objects member arguments) (map_typed store.objects member of arguments e)

iterable_found_typed : (store : Store) (found : Option IterableMember) (of : Ty) (arguments : List Value) → row_of iterable_reference found ≡ Some of → EffectTyped (out-Ty of) (iterables.does_found store found arguments)
iterable_found_typed store None of arguments e = cc
iterable_found_typed store (Some member) of arguments e = iterable_typed store member of arguments e

family_typed : (rules : Rules) (family : Family) (store : Store) (number : ℕ) (member : MemberType) (arguments : List Value) → Fits rules store.objects → has family number ≡ true
    → slice_get catalogue number ≡ Some member → reference_in member.result ≡ Some member.result → EffectTyped (out-Ty member.result) (act_of family store number arguments)
family_typed rules Iterables store number member arguments f is h reference =
    iterable_found_typed store (iterables.numbered number) member.result arguments
    (row_at (λ n. row_of iterable_reference (iterables.numbered n)) has_iterable iterable_rows number member is h ∙ reference)
family_typed rules Lists store number member arguments f is h reference =
    list_chosen_typed rules store (number == 98) (number == 114) (lists.numbered number) (taking.add_all store.objects arguments) (taking.add_all_at store.objects arguments) arguments member.result f
    (row_at list_row list_has list_rows number member is h ∙ reference)
family_typed rules Maps store number member arguments f is h reference =
    map_found_typed store (maps.numbered number) member.result arguments
    (row_at (λ n. row_of map_reference (maps.numbered n)) has_map map_rows number member is h ∙ reference)

pub container_typed : (rules : Rules) (store : Store) (number : ℕ) (member : MemberType) (arguments : List Value) → Fits rules store.objects → is_of_containers number ≡ true
    → slice_get catalogue number ≡ Some member → reference_in member.result ≡ Some member.result → EffectTyped (out-Ty member.result) (does_container store number arguments)
container_typed rules store number member arguments f is h reference =
    family_typed rules (family_of (is_on_list store.objects arguments) number) store number member arguments f (family_has (is_on_list store.objects arguments) number is) h reference
