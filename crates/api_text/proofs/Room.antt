-- Where there is no room for what is made.
use Rattle.std.proofs.Common.{◌≡◌, ℕ, ℤ, suc, ◌+◌, ◌-◌, ◌<◌, ◌≤◌, min, true, false, Option, Some, None, List, [], ◌∷◌, ◌++◌, length, take, drop, slice_get, inl, inr, refl, ap, sym, subst, ◌∙◌, arith, length-append}
use Rattle.std.proofs.lemmas.Bool.{cases_lt}
use Rattle.std.proofs.lemmas.Bool.Decides.{nat_tests}
use Rattle.std.specs.Prelude.{Ok, map, replicate}
use Rattle.std.proofs.lemmas.List.{length-drop, length-map, length-replicate, length-take}
use Rattle.pl_types.specs.declared.classes.TheConstants.{STRING}
use Rattle.pl_types.specs.declared.primitive.Primitive.TheVariants as prim
use Rattle.pl_types.specs.declared.ty.Ty.{Ty}
use Rattle.pl_types.specs.declared.ty.Ty.TheVariants as ty
use Rattle.object_values.specs.declared.value.Value.{Value}
use Rattle.object_values.specs.declared.value.Value.TheVariants as v
use Rattle.object_values.specs.declared.object.Object.{Object}
use Rattle.object_values.specs.declared.object.Object.TheVariants as o
use Rattle.object_heap.specs.Effects.{Gives, NoRoom}
use Rattle.object_heap.specs.Objects.{weight_of, renewed_by, renewal_growth, units_growth, with_units}
use Rattle.object_heap.specs.Parts.{asked, frozen_of, is_frozen, object_units, units_of}
use Rattle.object_heap.specs.Store.{Store, paid, charge, weight, with_change}
use Rattle.object_heap.proofs.Fronting.{open_grows}
use Rattle.object_heap.proofs.Growth.{add_grows, append_grows, renewal_grows}
use Rattle.object_heap.proofs.Paying.{charged, not_charged, paid_if, paid_not}
use Rattle.api_text.specs.declared.outcome.Outcome.TheVariants.{Extends, Makes}
use Rattle.api_text.specs.Builders.{is_builder, put_at, put_in, set_there, units_resized}
use Rattle.api_text.specs.Making.{array_of, chars_of, cost_of}
use Rattle.value_walks.specs.declared.outputs.Output.{Output}
use Rattle.value_walks.specs.declared.outputs.Output.TheVariants.{Kept, Over}
use Rattle.value_walks.specs.Outputs.{kept_in}
use Rattle.value_walks.specs.Texts.{Text, Wrote, TooDeep, TooLarge, GivesWithin, IsLonger}
use Rattle.api_text.specs.declared.outcome.Outcome.{Outcome}
use Rattle.api_text.specs.Outcomes.{Tells, effect, followed_by, gives_new, too_deep, too_large}
use Rattle.api_text.specs.Sequences.{index_error, place_within}
use Rattle.api_text.specs.Writing.{told_of}

-- a text costs its units and 1
pub no_room_for_text : (store : Store) (text : List ℕ) → store.room ≤ length text → effect store (Makes text) ≡ NoRoom
no_room_for_text store text h = rw (not_charged store (length text + 1) (omega arith)) refl

pub no_room_for_both : (store : Store) (text other : List ℕ) → store.room ≤ length text + length other → effect store (Makes (text ++ other)) ≡ NoRoom
no_room_for_both store text other h = no_room_for_text store (text ++ other) (omega (arith, length-append text other))

-- the text of a walk
pub made_whole : (room : ℕ) (walk : Text) (text : List ℕ) → GivesWithin room walk (Ok (Some text)) → followed_by walk Makes ≡ Makes text
made_whole room walk text h = ap (λ (w : Text). followed_by w Makes) h.1

pub no_room_for_walk : (store : Store) (walk : Text) → IsLonger (store.room - 1) walk → effect store (followed_by walk Makes) ≡ NoRoom
no_room_for_walk store (Wrote text visits) h = no_room_for_text store text (omega arith)
no_room_for_walk store TooDeep h = absurd h
no_room_for_walk store TooLarge h = absurd h

pub deep_told : (store : Store) (walk : Text) (result : Outcome) → walk ≡ TooDeep → Tells store too_deep result → Tells store (followed_by walk Makes) result
deep_told store walk result h told = subst (λ (w : Text). Tells store (followed_by w Makes) result) (sym h) told

pub large_told : (store : Store) (walk : Text) (result : Outcome) → walk ≡ TooLarge → Tells store too_large result → Tells store (followed_by walk Makes) result
large_told store walk result h told = subst (λ (w : Text). Tells store (followed_by w Makes) result) (sym h) told

-- a builder that a text is written to grows by its units
-- a builder is not frozen
unfrozen : (objects : List Object) (id : ℕ) (found : Option Object) → slice_get objects id ≡ found → is_builder found ≡ true → frozen_of objects id ≡ false
unfrozen objects id (Some (o.Builder units)) e h = ap (λ (f : Option Object). asked is_frozen false f) e
unfrozen objects id found e h = absurd (cc)

grown : (text : List ℕ) (found : Option Object) → is_builder found ≡ true → asked (units_growth (length text)) 0 found ≡ length text
grown text (Some (o.Builder units)) h = refl
grown text found h = absurd (cc)

pub no_room_to_grow : (store : Store) (builder : ℕ) (walk : Text) → is_builder (slice_get store.objects builder) ≡ true → IsLonger store.room walk
    → effect store (followed_by walk (Extends builder)) ≡ NoRoom
no_room_to_grow store builder (Wrote text visits) h l =
    rw (paid_not store (with_change store.objects builder (with_units text)) (length text) (open_grows store.objects builder (length text) (with_units text) (unfrozen store.objects builder (slice_get store.objects builder) refl h)
    (append_grows store.objects builder text ∙ grown text (slice_get store.objects builder) h)) l) refl
no_room_to_grow store builder TooDeep h l = absurd l
no_room_to_grow store builder TooLarge h l = absurd l

-- what was written to an output
pub told_whole : (out : Output) (text : List ℕ) → Some text ≡ kept_in out → told_of out ≡ Makes text
told_whole (Kept units room) text h = cc
told_whole Over text h = absurd (cc)

pub told_over : (store : Store) (out : Output) → None ≡ kept_in out → effect store (told_of out) ≡ NoRoom
told_over store (Kept units room) h = absurd (cc)
told_over store Over h = refl

-- a new object costs its weight and what is made for it
pub no_room_for_new : (store : Store) (object : Object) (made : ℕ) → store.room < weight_of object + made → gives_new store object made ≡ NoRoom
unfolding paid charge
no_room_for_new store object made h =
    let c : (weight (store.objects ++ object ∷ []) - weight store.objects) + made ≡ weight_of object + made = ap (λ (n : ℕ). n + made) (add_grows store.objects object) in
    rw c (grind (arith, nat_tests))

pub no_room_for_chars : (store : Store) (text : List ℕ) → store.room ≤ length text → effect store (chars_of text) ≡ NoRoom
unfolding weight_of
no_room_for_chars store text h =
    let f : ℕ → Value = v.Char in
    no_room_for_new store (o.Array (ty.Prim prim.Char) (map f text)) 0 (omega (arith, length-map text f))

-- a builder that grows costs what it grows by
builder_grows : (after units : List ℕ) → renewal_growth (o.Builder after) (o.Builder units) ≡ length after - length units
unfolding weight_of
builder_grows after units = omega arith

pub no_room_for_length : (store : Store) (builder count : ℕ) (units : List ℕ) → Some (o.Builder units) ≡ slice_get store.objects builder → store.room < count - length units
    → effect store (set_there builder (units_of store.objects builder) count) ≡ NoRoom
no_room_for_length store builder count units found h =
    let same : units_of store.objects builder ≡ units = ap (asked object_units []) (sym found) in
    let after = units_resized count (units_of store.objects builder) in
    let long : length after ≡ length (take count units) + (count - length units) =
    rw same (length-append (take count units) (replicate (count - length units) 0) ∙ ap (λ (n : ℕ). length (take count units) + n) (length-replicate (count - length units) 0)) in
    let growth : asked (renewal_growth (o.Builder after)) 0 (slice_get store.objects builder) ≡ length after - length units =
    ap (asked (renewal_growth (o.Builder after)) 0) (sym found) ∙ builder_grows after units in
    let kept : length (take count units) ≡ min count (length units) = length-take count units in
    let more : store.room < length after - length units = omega arith in
    rw (paid_not store (with_change store.objects builder (renewed_by (o.Builder after))) (length after - length units) (open_grows store.objects builder (length after - length units) (renewed_by (o.Builder after)) (ap (asked is_frozen false) (sym found)) (renewal_grows store.objects builder (o.Builder after) ∙ growth)) more) refl

-- a text that goes into a builder
inserted_length : (units text : List ℕ) (place : ℕ) → length (take place units ++ text ++ drop place units) ≡ length units + length text
inserted_length units text place =
    omega (arith, length-append (take place units ++ text) (drop place units), length-append (take place units) text, length-take place units, length-drop place units)

grown_by : (after text : List ℕ) (found : Option Object) → is_builder found ≡ true → length after ≡ length (asked object_units [] found) + length text → asked (renewal_growth (o.Builder after)) 0 found ≡ length text
grown_by after text (Some (o.Builder units)) h e = let more : length after - length units ≡ length text = omega (arith, e) in builder_grows after units ∙ more
grown_by after text found h e = absurd (cc)

pub no_room_to_insert : (store : Store) (builder : ℕ) (at : ℤ) (place : ℕ) (walk : Text) → is_builder (slice_get store.objects builder) ≡ true
    → Some place ≡ place_within 0 (length (units_of store.objects builder)) at → IsLonger store.room walk → effect store (followed_by walk (put_at builder (units_of store.objects builder) at)) ≡ NoRoom
no_room_to_insert store builder at place (Wrote text visits) h e l =
    let units = units_of store.objects builder in
    let after = take place units ++ text ++ drop place units in
    let growth : asked (renewal_growth (o.Builder after)) 0 (slice_get store.objects builder) ≡ length text = grown_by after text (slice_get store.objects builder) h (inserted_length units text place) in
    let full : effect store (put_in builder units at text (Some place)) ≡ NoRoom =
    rw (paid_not store (with_change store.objects builder (renewed_by (o.Builder after))) (length text)
    (open_grows store.objects builder (length text) (renewed_by (o.Builder after)) (unfrozen store.objects builder (slice_get store.objects builder) refl h) (renewal_grows store.objects builder (o.Builder after) ∙ growth)) l) refl in
    ap (λ (p : Option ℕ). effect store (put_in builder units at text p)) (sym e) ∙ full
no_room_to_insert store builder at place TooDeep h e l = absurd l
no_room_to_insert store builder at place TooLarge h e l = absurd l

-- where it has no such place
pub no_place_to_insert : (room builder : ℕ) (units : List ℕ) (at : ℤ) (walk : Text) → None ≡ place_within 0 (length units) at → IsLonger room walk
    → index_error at (length units) ≡ followed_by walk (put_at builder units at)
no_place_to_insert room builder units at (Wrote text visits) e l = ap (put_in builder units at text) e
no_place_to_insert room builder units at TooDeep e l = absurd l
no_place_to_insert room builder units at TooLarge e l = absurd l

-- an array of texts costs its weight and what the texts cost
pub no_room_for_texts : (store : Store) (texts : List (List ℕ)) → store.room ≤ cost_of texts + length texts → effect store (array_of texts) ≡ NoRoom
unfolding weight_of
no_room_for_texts store texts h =
    let f : List ℕ → Value = v.Str in
    no_room_for_new store (o.Array (ty.Class STRING) (map f texts)) (cost_of texts) (omega (arith, length-map texts f))

-- a charge that there is room for is taken
pub charged_surely : (old new : Store) (made : ℕ) → made ≤ old.room → paid old old.objects made ≡ Some new → new ≡ record old { room = old.room - made }
charged_surely old new made h e = let p = charged old made h in cc

pub never_refused : (old : Store) (made : ℕ) → made ≤ old.room → paid old old.objects made ≡ None → ⊥
never_refused old made h e = let p = charged old made h in cc

-- an object and what is made for it are paid one after the other
pub added_room : (old mid : Store) (object : Object) → weight_of object ≤ old.room → paid old (old.objects ++ object ∷ []) 0 ≡ Some mid → mid ≡ record { objects = old.objects ++ object ∷ []; room = old.room - weight_of object }
added_room old mid object h e = let p = paid_if old (old.objects ++ object ∷ []) (weight_of object) (add_grows old.objects object) h in cc

pub paid_for_new : (store : Store) (object : Object) (made : ℕ) → weight_of object + made ≤ store.room
    → gives_new store object made ≡ Gives (v.Ref (length store.objects)) (record { objects = store.objects ++ object ∷ []; room = store.room - (weight_of object + made) })
unfolding paid charge
paid_for_new store object made h =
    let c : (weight (store.objects ++ object ∷ []) - weight store.objects) + made ≡ weight_of object + made = ap (λ (n : ℕ). n + made) (add_grows store.objects object) in
    rw c (grind (arith, nat_tests))

-- where the object alone is refused
pub no_room_for_more : (store : Store) (object : Object) (made : ℕ) → paid store (store.objects ++ object ∷ []) 0 ≡ None → gives_new store object made ≡ NoRoom
no_room_for_more store object made e = elim (cases_lt store.room (weight_of object + made)) [
  | inl l ↦ no_room_for_new store object made l
  | inr g ↦ let p = paid_if store (store.objects ++ object ∷ []) (weight_of object) (add_grows store.objects object) (omega arith) in cc
]

-- an array of so many items
pub no_room_for_array : (store : Store) (elem : Ty) (items : List Value) (made : ℕ) → store.room ≤ length items + made → gives_new store (o.Array elem items) made ≡ NoRoom
unfolding weight_of
no_room_for_array store elem items made h = no_room_for_new store (o.Array elem items) made (omega arith)

pub array_room : (old mid : Store) (elem : Ty) (items : List Value) (made : ℕ) → length items + made < old.room → paid old (old.objects ++ o.Array elem items ∷ []) 0 ≡ Some mid → made ≤ mid.room
unfolding weight_of
array_room old mid elem items made h e =
    let same = added_room old mid (o.Array elem items) (omega arith) e in
    subst (λ (s : Store). made ≤ s.room) (sym same) (omega arith)

pub array_paid : (old mid : Store) (elem : Ty) (items : List Value) (made : ℕ) → length items + made < old.room → paid old (old.objects ++ o.Array elem items ∷ []) 0 ≡ Some mid
    → gives_new old (o.Array elem items) made ≡ Gives (v.Ref (length old.objects)) (record mid { room = mid.room - made })
unfolding weight_of
array_paid old mid elem items made h e =
    let same = added_room old mid (o.Array elem items) (omega arith) e in
    let less : old.room - (suc (length items) + made) ≡ (old.room - suc (length items)) - made = omega arith in
    paid_for_new old (o.Array elem items) made (omega arith)
    ∙ (ap (λ (n : ℕ). Gives (v.Ref (length old.objects)) (record { objects = old.objects ++ o.Array elem items ∷ []; room = n })) less
    ∙ ap (λ (s : Store). Gives (v.Ref (length old.objects)) (record s { room = s.room - made })) (sym same))
