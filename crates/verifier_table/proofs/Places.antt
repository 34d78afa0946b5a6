-- What stands at lines, as places.
use Rattle.std.proofs.Common.{◌≡◌, ℕ, zero, suc, ◌<◌, ◌≤◌, Bool, true, false, ◌&&◌, List, [], ◌∷◌, length, map, get_or, refl, sym, ap, ◌∙◌, arith}
use Rattle.std.specs.Prelude.{replicate}
use Rattle.std.specs.List.{list_all}
use Rattle.std.proofs.Math.ListN.{set, get_or-map}
use Rattle.std.proofs.lemmas.List.{map-set, get_or_default}
use borrow.Author.Tests.{ltb-true, lt-ltb}
use Rattle.pl_code.specs.declared.kinds.Slot.{Slot}
use Rattle.verifier_table.specs.declared.node.Place.{Place}
use Rattle.verifier_table.specs.declared.node.Place.TheVariants as place
use Rattle.verifier_table.specs.Shapes.{Nowhere, Known, meets}
use Rattle.verifier_table.specs.Nodes.{stack_at, seen_place, is_within, AreWithin}
use Rattle.verifier_table.specs.Grows.{Grows}

both : (s t : Bool) → s ≡ true → t ≡ true → (s && t) ≡ true
both true t e f = f
both false t e f = cc

first_of : (s t : Bool) → (s && t) ≡ true → s ≡ true
first_of true t h = refl
first_of false t h = cc

second_of : (s t : Bool) → (s && t) ≡ true → t ≡ true
second_of true t h = h
second_of false t h = cc

-- ---- at first

nowhere_within : (count n : ℕ) → list_all (is_within count) (replicate n place.Nowhere) ≡ true
nowhere_within count zero = refl
nowhere_within count (suc n) = nowhere_within count n

pub within_at_first : (count n : ℕ) (places : List Place) → places ≡ replicate n place.Nowhere → AreWithin count places
within_at_first count n places e = record { each = ap (list_all (is_within count)) e ∙ nowhere_within count n }

nowhere_seen : (stacks : List (List Slot)) (n : ℕ) → map (seen_place stacks) (replicate n place.Nowhere) ≡ replicate n Nowhere
nowhere_seen stacks zero = refl
nowhere_seen stacks (suc n) = ap (λ ms. Nowhere ∷ ms) (nowhere_seen stacks n)

pub seen_at_first : (stacks : List (List Slot)) (n : ℕ) (places : List Place) → places ≡ replicate n place.Nowhere → map (seen_place stacks) places ≡ replicate n Nowhere
seen_at_first stacks n places e = ap (map (seen_place stacks)) e ∙ nowhere_seen stacks n

-- ---- where stacks came to others

still_within : (old new : List (List Slot)) (at : ℕ) (kinds : List Slot) → Grows old new at kinds → (p : Place) → is_within (length old) p ≡ true → is_within (length new) p ≡ true
still_within old new at kinds g place.Nowhere h = refl
still_within old new at kinds g place.Torn h = refl
still_within old new at kinds g (place.Known k) h = lt-ltb k (length new) (g.longer k (ltb-true k (length old) h))

all_still_within : (old new : List (List Slot)) (at : ℕ) (kinds : List Slot) → Grows old new at kinds → (ps : List Place) → list_all (is_within (length old)) ps ≡ true → list_all (is_within (length new)) ps ≡ true
all_still_within old new at kinds g [] h = refl
all_still_within old new at kinds g (p ∷ ps) h =
    both _ _ (still_within old new at kinds g p (first_of _ _ h)) (all_still_within old new at kinds g ps (second_of (is_within (length old) p) _ h))

pub within_grown : (old new : List (List Slot)) (at : ℕ) (kinds : List Slot) → Grows old new at kinds → (ps : List Place) → AreWithin (length old) ps → AreWithin (length new) ps
within_grown old new at kinds g ps a = record { each = all_still_within old new at kinds g ps a.each }

still_seen : (old new : List (List Slot)) (at : ℕ) (kinds : List Slot) → Grows old new at kinds → (p : Place) → is_within (length old) p ≡ true → seen_place new p ≡ seen_place old p
still_seen old new at kinds g place.Nowhere h = refl
still_seen old new at kinds g place.Torn h = refl
still_seen old new at kinds g (place.Known k) h = ap Known (g.kept k (ltb-true k (length old) h))

all_still_seen : (old new : List (List Slot)) (at : ℕ) (kinds : List Slot) → Grows old new at kinds → (ps : List Place) → list_all (is_within (length old)) ps ≡ true → map (seen_place new) ps ≡ map (seen_place old) ps
all_still_seen old new at kinds g [] h = refl
all_still_seen old new at kinds g (p ∷ ps) h =
    let e = still_seen old new at kinds g p (first_of _ _ h) in
    let es = all_still_seen old new at kinds g ps (second_of (is_within (length old) p) _ h) in
    (λ i. e i ∷ es i)

pub seen_grown : (old new : List (List Slot)) (at : ℕ) (kinds : List Slot) → Grows old new at kinds → (ps : List Place) → AreWithin (length old) ps → map (seen_place new) ps ≡ map (seen_place old) ps
seen_grown old new at kinds g ps a = all_still_seen old new at kinds g ps a.each

-- ---- where one place changes

set_within : (count : ℕ) (ps : List Place) (i : ℕ) (p : Place) → list_all (is_within count) ps ≡ true → is_within count p ≡ true → list_all (is_within count) (set ps i p) ≡ true
set_within count [] i p h e = refl
set_within count (q ∷ ps) zero p h e = both _ _ e (second_of (is_within count q) _ h)
set_within count (q ∷ ps) (suc i) p h e = both _ _ (first_of _ _ h) (set_within count ps i p (second_of (is_within count q) _ h) e)

pub within_set : (count : ℕ) (ps : List Place) (i : ℕ) (p : Place) → AreWithin count ps → is_within count p ≡ true → AreWithin count (set ps i p)
within_set count ps i p a e = record { each = set_within count ps i p a.each e }

pub within_at : (count : ℕ) (ps : List Place) (i : ℕ) (d : Place) → list_all (is_within count) ps ≡ true → i < length ps → is_within count (get_or ps i d) ≡ true
within_at count [] i d h b = absurd (omega arith)
within_at count (p ∷ ps) zero d h b = first_of _ _ h
within_at count (p ∷ ps) (suc i) d h b = within_at count ps i d (second_of (is_within count p) _ h) (omega arith)

-- a line to which one more leads
pub seen_set : (stacks : List (List Slot)) (ps : List Place) (i : ℕ) (p before : Place) (top : ℕ) → before ≡ get_or ps i before → i < length ps → seen_place stacks p ≡ meets (seen_place stacks before) (stack_at stacks top)
    → map (seen_place stacks) (set ps i p) ≡ set (map (seen_place stacks) ps) i (meets (get_or (map (seen_place stacks) ps) i Nowhere) (stack_at stacks top))
seen_set stacks ps i p before top e h m =
    let same : get_or (map (seen_place stacks) ps) i Nowhere ≡ seen_place stacks before = get_or-map (seen_place stacks) ps i place.Nowhere ∙ ap (seen_place stacks) (get_or_default ps i place.Nowhere before h ∙ sym e) in
    map-set (seen_place stacks) ps i p ∙ ap (set (map (seen_place stacks) ps) i) (m ∙ ap (λ b. meets b (stack_at stacks top)) (sym same))

pub set_past : {X : Type 0} (xs : List X) (i : ℕ) (x : X) → length xs ≤ i → set xs i x ≡ xs
set_past [] i x h = refl
set_past (y ∷ xs) zero x h = absurd (omega arith)
set_past (y ∷ xs) (suc i) x h = ap (λ ys. y ∷ ys) (set_past xs i x (omega arith))
