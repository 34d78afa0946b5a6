-- What entries that go into a list weigh, and how they are paid.
use Rattle.std.proofs.Common.{◌≡◌, ℕ, zero, suc, ◌+◌, ◌-◌, ◌*◌, ◌<◌, ◌≤◌, Bool, true, false, Option, Some, None, List, [], ◌∷◌, ◌++◌, length, take, drop, refl, ap, sym, ◌∙◌, subst, arith, length-append, slice_get, if◌then◌else◌}
use Rattle.std.proofs.lemmas.Bool.{cond_both}
use Rattle.object_values.specs.declared.object.Guard.{Guard}
use Rattle.object_values.specs.declared.object.Guard.TheVariants as g
use Rattle.object_values.specs.declared.object.Object.{Object}
use Rattle.object_values.specs.declared.object.Object.TheVariants as o
use Rattle.object_values.specs.declared.value.Value.{Value}
use Rattle.object_heap.specs.Effects.{Gives, NoRoom, after_paying, gives_paid}
use Rattle.object_heap.specs.Objects.{AList, changed_by, may_become, renewed_by, weight_of}
use Rattle.object_heap.specs.Parts.{asked, frozen_of, is_frozen, open_at}
use Rattle.object_heap.specs.Paying.{PaysSurely}
use Rattle.object_heap.specs.Store.{Store, changed_one, paid, weight, with_change}
use Rattle.object_heap.proofs.Fronting.{open_changes}
use Rattle.object_heap.proofs.Growth.{cons_changed}
use Rattle.object_heap.proofs.KindLemmas.{becomes_refl}
use Rattle.object_heap.proofs.Paying.{paid_if, paid_not}
use Rattle.container_values.specs.Elements.{entries_under}
use Rattle.api_list.specs.Taking.{grown, renewed_freely}

-- ---- weights

weight_joined : (objects more : List Object) → weight (objects ++ more) ≡ weight objects + weight more
weight_joined [] more = omega arith
weight_joined (x ∷ objects) more = omega (arith, weight_joined objects more)

entries_weigh : (map : ℕ) (keys : List Value) → weight (entries_under map keys) ≡ 3 * length keys
unfolding weight_of
entries_weigh map [] = refl
entries_weigh map (key ∷ keys) = omega (arith, entries_weigh map keys)

pub with_entries : (objects : List Object) (map : ℕ) (keys : List Value) → weight (objects ++ entries_under map keys) ≡ weight objects + 3 * length keys
with_entries objects map keys = omega (arith, weight_joined objects (entries_under map keys), entries_weigh map keys)

change_weighs : (objects : List Object) (id : ℕ) (change : Object → Object) (old : Object) → slice_get objects id ≡ Some old
    → weight (changed_one objects id change) + weight_of old ≡ weight objects + weight_of (change old)
change_weighs [] id change old h = cc
change_weighs (x ∷ objects) zero change old h = let same : x ≡ old = cc in omega (arith, ap weight_of same, ap (λ (y : Object). weight_of (change y)) same)
change_weighs (x ∷ objects) (suc id) change old h =
    omega (arith, ap weight (cons_changed x objects id change (slice_get objects id)), change_weighs objects id change old h)

still_there : (objects more : List Object) (id : ℕ) (object : Object) → slice_get objects id ≡ Some object → slice_get (objects ++ more) id ≡ Some object
still_there [] more id object h = cc
still_there (x ∷ objects) more zero object h = h
still_there (x ∷ objects) more (suc id) object h = still_there objects more id object h

between : (at : ℕ) (items more : List Value) → length (take at items ++ more ++ drop at items) ≡ length items + length more
between zero items more = omega (arith, length-append more items)
between (suc at) [] more = omega (arith, length-append more [])
between (suc at) (item ∷ items) more = omega (arith, between at items more)

list_weighs : (class class' : ℕ) (items more : List Value) (guard guard' : Guard) (changes changes' : ℕ) → class ≡ class'
    → weight_of (renewed_by (o.List class' more guard' changes') (o.List class items guard changes)) ≡ suc (length more)
unfolding weight_of
list_weighs class class' items more guard guard' changes changes' e =
    let is : may_become (AList class) (AList class') ≡ true = subst (λ (n : ℕ). may_become (AList class) (AList n) ≡ true) e (becomes_refl (AList class)) in
    ap (λ (b : Bool). weight_of (if b then o.List class' more guard' changes' else o.List class items guard changes)) is

own_weight : (class : ℕ) (items : List Value) (guard : Guard) (changes : ℕ) → weight_of (o.List class items guard changes) ≡ suc (length items)
unfolding weight_of
own_weight class items guard changes = refl

still_open : (objects more : List Object) (id : ℕ) (object : Object) → slice_get objects id ≡ Some object → frozen_of objects id ≡ false → frozen_of (objects ++ more) id ≡ false
still_open objects more id object e h =
    let here : frozen_of objects id ≡ is_frozen object = ap (asked is_frozen false) e in ap (asked is_frozen false) (still_there objects more id object e) ∙ (sym here ∙ h)

grown_weighs : (objects made : List Object) (list at : ℕ) (more : List Value) (found : Option Object) (object : Object) → slice_get objects list ≡ found → frozen_of objects list ≡ false
    → grown at more found ≡ Some object → weight (with_change (objects ++ made) list (renewed_by object)) ≡ weight (objects ++ made) + length more
grown_weighs objects made list at more None object e p h = cc
grown_weighs objects made list at more (Some (o.List class items guard changes)) object e p h =
    let whole : List Value = take at items ++ more ++ drop at items in
    let same : o.List class whole g.Open (changed_by changes (length more)) ≡ object = cc in
    subst (λ (x : Object). weight (with_change (objects ++ made) list (renewed_by x)) ≡ weight (objects ++ made) + length more) same
    (omega (
      arith,
      ap weight (open_changes (objects ++ made) list (renewed_by (o.List class whole g.Open (changed_by changes (length more)))) (still_open objects made list (o.List class items guard changes) e p)),
      change_weighs (objects ++ made) list (renewed_by (o.List class whole g.Open (changed_by changes (length more)))) (o.List class items guard changes) (still_there objects made list (o.List class items guard changes) e),
      list_weighs class class items whole guard g.Open changes (changed_by changes (length more)) refl,
      own_weight class items guard changes,
      between at items more,
    ))
grown_weighs objects made list at more (Some object') object e p h = cc

open_weighs : (objects made : List Object) (list at : ℕ) (more : List Value) (object : Object) → grown at more (open_at objects list) ≡ Some object
    → weight (with_change (objects ++ made) list (renewed_by object)) ≡ weight (objects ++ made) + length more
open_weighs objects made list at more object =
    cond_both (frozen_of objects list) None (slice_get objects list)
    (λ (found : Option Object). grown at more found ≡ Some object → weight (with_change (objects ++ made) list (renewed_by object)) ≡ weight (objects ++ made) + length more) (λ _. λ h. cc)
    (λ p. λ h. grown_weighs objects made list at more (slice_get objects list) object refl p h)

pub entered_weighs : (objects : List Object) (list at map : ℕ) (keys more : List Value) (object : Object) → length more ≡ length keys → grown at more (open_at objects list) ≡ Some object
    → weight (with_change (objects ++ entries_under map keys) list (renewed_by object)) ≡ weight objects + 4 * length keys
entered_weighs objects list at map keys more object e h = omega (arith, open_weighs objects (entries_under map keys) list at more object h, with_entries objects map keys, e)

pub entries_made : (objects : List Object) (map : ℕ) (keys : List Value) (made : List Object) (count : ℕ) → made ≡ entries_under map keys → count ≡ length keys → weight (objects ++ made) ≡ weight objects + 3 * count
entries_made objects map keys made count e n = ap (λ (m : List Object). weight (objects ++ m)) e ∙ (with_entries objects map keys ∙ ap (λ (k : ℕ). weight objects + 3 * k) (sym n))

pub list_made : (objects : List Object) (list at map : ℕ) (keys more : List Value) (object : Object) (made : List Object) (count : ℕ) → made ≡ entries_under map keys → count ≡ length keys → length more ≡ length keys
    → grown at more (open_at objects list) ≡ Some object → weight (with_change (objects ++ made) list (renewed_by object)) ≡ weight objects + 4 * count
list_made objects list at map keys more object made count e n l h =
    ap (λ (m : List Object). weight (with_change (objects ++ m) list (renewed_by object))) e
    ∙ (entered_weighs objects list at map keys more object l h ∙ ap (λ (k : ℕ). weight objects + 4 * k) (sym n))

-- ---- payments

surely : (old new : Store) (objects : List Object) (is : Bool) → paid old objects 0 ≡ Some (record { objects = objects; room = old.room - (weight objects - weight old.objects) }) → PaysSurely old new objects 0 is
    → new ≡ record { objects = objects; room = old.room - (weight objects - weight old.objects) }
surely old new objects true p h = cc
surely old new objects false p h = let none : paid old objects 0 ≡ None = h.0 in cc

pub renewed_surely : (old new : Store) (list : ℕ) (object : Object) (is : Bool) → weight (with_change old.objects list (renewed_by object)) - weight old.objects ≤ old.room
    → PaysSurely old new (with_change old.objects list (renewed_by object)) 0 is → new ≡ renewed_freely old list object
renewed_surely old new list object is h p =
    surely old new (with_change old.objects list (renewed_by object)) is (paid_if old (with_change old.objects list (renewed_by object)) (weight (with_change old.objects list (renewed_by object)) - weight old.objects) refl h) p

-- the store once the entries are added
abbrev pub with_made : Store → List Object → ℕ → Store
with_made store made count = record { objects = store.objects ++ made; room = store.room - 3 * count }

added : (old new : Store) (made : List Object) (count : ℕ) → weight (old.objects ++ made) ≡ weight old.objects + 3 * count → 4 * count ≤ old.room → paid old (old.objects ++ made) 0 ≡ Some new
    → new ≡ with_made old made count
added old new made count w r p = let is : paid old (old.objects ++ made) 0 ≡ Some (with_made old made count) = paid_if old (old.objects ++ made) (3 * count) (omega arith) (omega arith) in cc

pub room_left : (old new : Store) (list : ℕ) (made : List Object) (object : Object) (count : ℕ) → weight (old.objects ++ made) ≡ weight old.objects + 3 * count
    → weight (with_change (old.objects ++ made) list (renewed_by object)) ≡ weight old.objects + 4 * count → 4 * count ≤ old.room → paid old (old.objects ++ made) 0 ≡ Some new
    → weight (with_change new.objects list (renewed_by object)) - weight new.objects ≤ new.room
room_left old new list made object count w a r p =
    subst (λ (s : Store). weight (with_change s.objects list (renewed_by object)) - weight s.objects ≤ s.room) (sym (added old new made count w r p)) (omega arith)

pub entered_paid : (old middle new : Store) (list : ℕ) (made : List Object) (object : Object) (count : ℕ) (value : Value) → weight (old.objects ++ made) ≡ weight old.objects + 3 * count
    → weight (with_change (old.objects ++ made) list (renewed_by object)) ≡ weight old.objects + 4 * count → 4 * count ≤ old.room → paid old (old.objects ++ made) 0 ≡ Some middle
    → new ≡ renewed_freely middle list object → gives_paid old (with_change (old.objects ++ made) list (renewed_by object)) value ≡ Gives value new
entered_paid old middle new list made object count value w a r p e =
    let all : List Object = with_change (old.objects ++ made) list (renewed_by object) in
    let whole : paid old all 0 ≡ Some (record { objects = all; room = old.room - 4 * count }) = paid_if old all (4 * count) (omega arith) r in
    let left : (old.room - 3 * count) - (weight all - weight (old.objects ++ made)) ≡ old.room - 4 * count = omega arith in
    let is : new ≡ record { objects = all; room = old.room - 4 * count } =
    e ∙ (ap (λ (s : Store). renewed_freely s list object) (added old middle made count w r p) ∙ ap (λ (n : ℕ). record { objects = all; room = n }) left) in
    ap (λ (s : Option Store). after_paying s (λ (paid : Store). Gives value paid)) whole ∙ ap (λ (s : Store). Gives value s) (sym is)

pub never_unpaid : (old : Store) (made : List Object) (count : ℕ) → weight (old.objects ++ made) ≡ weight old.objects + 3 * count → 4 * count ≤ old.room → paid old (old.objects ++ made) 0 ≡ None → ⊥
never_unpaid old made count w r p = let is : paid old (old.objects ++ made) 0 ≡ Some (with_made old made count) = paid_if old (old.objects ++ made) (3 * count) (omega arith) (omega arith) in cc

pub unpaid : (old : Store) (all : List Object) (count : ℕ) (value : Value) → weight all ≡ weight old.objects + 4 * count → old.room < 4 * count → gives_paid old all value ≡ NoRoom
unpaid old all count value a r = ap (λ (s : Option Store). after_paying s (λ (paid : Store). Gives value paid)) (paid_not old all (4 * count) (omega arith) r)
