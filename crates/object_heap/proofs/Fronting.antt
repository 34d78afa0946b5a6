-- Objects in front of others, and changes of those behind.
use Rattle.std.proofs.Common.{◌≡◌, ℕ, zero, suc, ◌+◌, ◌-◌, ◌<◌, ◌≤◌, Bool, true, false, Option, Some, None, List, [], ◌∷◌, ◌++◌, length, map, refl, ap, sym, ◌∙◌, subst, arith, slice_get, slice_set, if◌then◌else◌}
use Rattle.std.proofs.lemmas.Bool.{cond_both}
use Rattle.std.proofs.lemmas.List.{append-nil, append_assoc}
use Rattle.object_values.specs.declared.object.Object.{Object}
use Rattle.object_values.specs.declared.object.Object.TheVariants as o
use Rattle.object_values.specs.declared.value.Value.{Value}
use Rattle.object_heap.specs.Objects.{weight_of, retired}
use Rattle.object_heap.specs.Parts.{AreFrozen, asked, frozen_of, is_frozen, items_of, list_items, list_items_of, object_items, object_pairs, open_items_of, open_list_items_of, open_pairs_of, pairs_of}
use Rattle.object_heap.specs.Store.{Store, changed_at, changed_one, paid, weight, with_change}
use Rattle.object_heap.proofs.Paying.{paid_if, paid_not}

-- ---- which object has a number

pub got_in_front : (front own : List Object) (id : ℕ) → id < length front → slice_get front id ≡ slice_get (front ++ own) id
got_in_front [] own id h = absurd (omega arith)
got_in_front (x ∷ front) own zero h = refl
got_in_front (x ∷ front) own (suc id) h = got_in_front front own id (omega arith)

got_there : (front own : List Object) (id at : ℕ) → id ≡ length front + at → slice_get (front ++ own) id ≡ slice_get own at
got_there [] own id at e = let same : id ≡ at = omega arith in ap (λ (n : ℕ). slice_get own n) same
got_there (x ∷ front) own zero at e = absurd (omega arith)
got_there (x ∷ front) own (suc id) at e = got_there front own id at (omega arith)

pub got_behind : (front own : List Object) (id : ℕ) → length front ≤ id → slice_get own (id - length front) ≡ slice_get (front ++ own) id
got_behind front own id h = sym (got_there front own id (id - length front) (omega arith))

-- ---- what is frozen

all_frozen : (front own : List Object) (id : ℕ) → AreFrozen front → id < length front → frozen_of (front ++ own) id ≡ true
all_frozen [] own id f h = absurd (omega arith)
all_frozen (x ∷ front) own zero f h = f.0
all_frozen (x ∷ front) own (suc id) f h = all_frozen front own id f.1 (omega arith)

pub frozen_in_front : (front own : List Object) (id : ℕ) → AreFrozen front → id < length front → frozen_of (front ++ own) id ≡ true
frozen_in_front front own id f h = all_frozen front own id f h

pub frozen_behind : (front own : List Object) (id : ℕ) → length front ≤ id → frozen_of (front ++ own) id ≡ frozen_of own (id - length front)
frozen_behind front own id h = ap (λ (found : Option Object). asked is_frozen false found) (sym (got_behind front own id h))

open_there : (front own : List Object) (id at : ℕ) → id ≡ length front + at → frozen_of own at ≡ false → frozen_of (front ++ own) id ≡ false
open_there front own id at e h = ap (λ (found : Option Object). asked is_frozen false found) (got_there front own id at e) ∙ h

-- ---- changes

-- what holds of the objects as they are, and of them with one changed
pub whether : (objects : List Object) (id : ℕ) (change : Object → Object) (P : List Object → Type 0) → P objects → P (changed_one objects id change) → P (with_change objects id change)
whether objects id change P h g = cond_both (frozen_of objects id) objects (changed_one objects id change) P (λ _. h) (λ _. g)

-- where it is not frozen the object is changed
pub open_changes : (objects : List Object) (id : ℕ) (change : Object → Object) → frozen_of objects id ≡ false → with_change objects id change ≡ changed_one objects id change
open_changes objects id change h = ap (λ (b : Bool). if b then objects else changed_one objects id change) h

-- the weight that a change adds, where something may change the object
pub open_grows : (objects : List Object) (id growth : ℕ) (change : Object → Object) → frozen_of objects id ≡ false → weight (changed_one objects id change) - weight objects ≡ growth
    → weight (with_change objects id change) - weight objects ≡ growth
open_grows objects id growth change h g = omega (arith, ap weight (open_changes objects id change h), g)

-- nothing changes what is frozen
pub stays_closed : (objects : List Object) (id : ℕ) (change : Object → Object) → frozen_of objects id ≡ true → with_change objects id change ≡ objects
stays_closed objects id change h = ap (λ (b : Bool). if b then objects else changed_one objects id change) h

pub closed_pays : (s : Store) (id : ℕ) (change : Object → Object) → frozen_of s.objects id ≡ true → paid s (with_change s.objects id change) 0 ≡ Some s
closed_pays s id change h =
    let none : weight (with_change s.objects id change) - weight s.objects ≡ 0 = omega (arith, ap weight (stays_closed s.objects id change h)) in
    let left : s.room - 0 ≡ s.room = omega arith in
    paid_if s (with_change s.objects id change) 0 none (omega arith)
    ∙ ap (λ (objects : List Object). Some (record { objects = objects; room = s.room - 0 })) (stays_closed s.objects id change h) ∙ ap (λ (n : ℕ). Some (record { objects = s.objects; room = n })) left

set_behind : (front own : List Object) (id at : ℕ) (object : Object) → id ≡ length front + at → slice_set (front ++ own) id object ≡ front ++ slice_set own at object
set_behind [] own id at object e = let same : id ≡ at = omega arith in ap (λ (n : ℕ). slice_set own n object) same
set_behind (x ∷ front) own zero at object e = absurd (omega arith)
set_behind (x ∷ front) own (suc id) at object e = ap (λ (rest : List Object). x ∷ rest) (set_behind front own id at object (omega arith))

one_behind : (front own : List Object) (id at : ℕ) (change : Object → Object) (found : Option Object) → id ≡ length front + at → changed_at (front ++ own) id change found ≡ front ++ changed_at own at change found
one_behind front own id at change None e = refl
one_behind front own id at change (Some object) e = set_behind front own id at (change object) e

changed_there : (front own : List Object) (id at : ℕ) (change : Object → Object) → id ≡ length front + at → changed_one (front ++ own) id change ≡ front ++ changed_one own at change
changed_there front own id at change e =
    ap (λ (found : Option Object). changed_at (front ++ own) id change found) (got_there front own id at e) ∙ one_behind front own id at change (slice_get own at) e

pub changes_behind : (front own : List Object) (id at : ℕ) (change : Object → Object) → id ≡ length front + at → frozen_of own at ≡ false
    → with_change (front ++ own) id change ≡ front ++ changed_one own at change
changes_behind front own id at change e h =
    ap (λ (b : Bool). if b then front ++ own else changed_one (front ++ own) id change) (open_there front own id at e h)
    ∙ changed_there front own id at change e

-- the weight that a change behind those in front adds
weight-joined : (objects more : List Object) → weight (objects ++ more) ≡ weight objects + weight more
weight-joined [] more = omega arith
weight-joined (x ∷ objects) more = omega (arith, weight-joined objects more)

pub grows_behind : (front own : List Object) (id at growth : ℕ) (change : Object → Object) → id ≡ length front + at → frozen_of own at ≡ false
    → weight (changed_one own at change) - weight own ≡ growth → weight (with_change (front ++ own) id change) - weight (front ++ own) ≡ growth
grows_behind front own id at growth change e h g =
    omega (arith, ap weight (changes_behind front own id at change e h), weight-joined front own, weight-joined front (changed_one own at change), g)

pub pays_behind : (front own : List Object) (room id at growth : ℕ) (change : Object → Object) → id ≡ length front + at → frozen_of own at ≡ false
    → weight (changed_one own at change) - weight own ≡ growth → growth ≤ room
    → paid (record { objects = front ++ own; room = room }) (with_change (front ++ own) id change) 0 ≡ Some (record { objects = front ++ changed_one own at change; room = room - growth })
pays_behind front own room id at growth change e h g r =
    paid_if (record { objects = front ++ own; room = room }) (with_change (front ++ own) id change) growth (grows_behind front own id at growth change e h g) r
    ∙ ap (λ (objects : List Object). Some (record { objects = objects; room = room - growth })) (changes_behind front own id at change e h)

pub no_room_behind : (front own : List Object) (room id at growth : ℕ) (change : Object → Object) → id ≡ length front + at → frozen_of own at ≡ false
    → weight (changed_one own at change) - weight own ≡ growth → room < growth
    → paid (record { objects = front ++ own; room = room }) (with_change (front ++ own) id change) 0 ≡ None
no_room_behind front own room id at growth change e h g r =
    paid_not (record { objects = front ++ own; room = room }) (with_change (front ++ own) id change) growth (grows_behind front own id at growth change e h g) r

abbrev store_of : List Object → ℕ → Store
store_of objects room = record { objects = objects; room = room }

pub written_behind : (front own : List Object) (room id at : ℕ) (change : Object → Object) → id ≡ length front + at → frozen_of own at ≡ false
    → store_of (front ++ changed_one own at change) room ≡ store_of (with_change (front ++ own) id change) room
written_behind front own room id at change e h = ap (λ (objects : List Object). store_of objects room) (sym (changes_behind front own id at change e h))

pub pays_more : (front own more : List Object) (room growth : ℕ) → weight more ≡ growth → growth ≤ room
    → paid (store_of (front ++ own) room) ((front ++ own) ++ more) 0 ≡ Some (store_of (front ++ (own ++ more)) (room - growth))
pays_more front own more room growth e r =
    paid_if (store_of (front ++ own) room) ((front ++ own) ++ more) growth (omega (arith, weight-joined (front ++ own) more)) r
    ∙ ap (λ (objects : List Object). Some (store_of objects (room - growth))) (append_assoc front own more)

-- ---- what is taken out or written over

asked_there : {A : Type 0} → (question : Object → A) (none : A) (front own : List Object) (id at : ℕ) → id ≡ length front + at
    → asked question none (slice_get (front ++ own) id) ≡ asked question none (slice_get own at)
asked_there question none front own id at e = ap (λ (found : Option Object). asked question none found) (got_there front own id at e)

opened : {A : Type 0} → (front own : List Object) (id at : ℕ) (closed answer : A) → id ≡ length front + at → frozen_of own at ≡ false
    → (if frozen_of (front ++ own) id then closed else answer) ≡ answer
opened front own id at closed answer e h = ap (λ (b : Bool). if b then closed else answer) (open_there front own id at e h)

pub open_items : (front own : List Object) (id at : ℕ) → id ≡ length front + at → frozen_of own at ≡ false → open_items_of (front ++ own) id ≡ items_of own at
open_items front own id at e h = opened front own id at [] (items_of (front ++ own) id) e h ∙ asked_there object_items [] front own id at e

pub open_list_items : (front own : List Object) (id at : ℕ) → id ≡ length front + at → frozen_of own at ≡ false → open_list_items_of (front ++ own) id ≡ list_items_of own at
open_list_items front own id at e h = opened front own id at [] (list_items_of (front ++ own) id) e h ∙ asked_there list_items [] front own id at e

pub pairs_behind : (front own : List Object) (id at : ℕ) → id ≡ length front + at → pairs_of (front ++ own) id ≡ pairs_of own at
pairs_behind front own id at e = asked_there object_pairs [] front own id at e

pub open_pairs : (front own : List Object) (id at : ℕ) → id ≡ length front + at → frozen_of own at ≡ false → open_pairs_of (front ++ own) id ≡ pairs_of own at
open_pairs front own id at e h = opened front own id at [] (pairs_of (front ++ own) id) e h ∙ pairs_behind front own id at e

-- what is frozen has nothing of these
pub no_items : (objects : List Object) (id : ℕ) → frozen_of objects id ≡ true → open_items_of objects id ≡ []
no_items objects id h = ap (λ (b : Bool). if b then [] else items_of objects id) h

pub no_list_items : (objects : List Object) (id : ℕ) → frozen_of objects id ≡ true → open_list_items_of objects id ≡ []
no_list_items objects id h = ap (λ (b : Bool). if b then [] else list_items_of objects id) h

pub no_pairs : (objects : List Object) (id : ℕ) → frozen_of objects id ≡ true → open_pairs_of objects id ≡ []
no_pairs objects id h = ap (λ (b : Bool). if b then [] else pairs_of objects id) h

-- ---- lambdas that are gone

retired_frozen : (object : Object) → is_frozen object ≡ true → retired object ≡ object
retired_frozen (o.Fun iface target captures) h = cc
retired_frozen object h = refl

pub retired_behind : (front own : List Object) → AreFrozen front → map retired (front ++ own) ≡ front ++ map retired own
retired_behind [] own f = refl
retired_behind (x ∷ front) own f = ap (λ (y : Object). y ∷ map retired (front ++ own)) (retired_frozen x f.0) ∙ ap (λ (rest : List Object). x ∷ rest) (retired_behind front own f.1)

-- ---- no objects in front, and none behind

pub nothing_behind : (front : List Object) → front ++ [] ≡ front
nothing_behind front = append-nil front

pub nothing_in_front : (front own : List Object) → length front ≡ 0 → front ++ own ≡ own
nothing_in_front [] own h = refl
nothing_in_front (x ∷ front) own h = absurd (omega arith)
