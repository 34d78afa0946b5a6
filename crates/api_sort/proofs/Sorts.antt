-- What is in order, and has those that tie in the order of another list, is that list sorted by insertion.
use Rattle.std.proofs.Common.{◌≡◌, ℕ, suc, ◌<◌, ◌≤◌, Bool, true, false, not, ◌&&◌, cond, List, [], ◌∷◌, length, refl, ap, sym, ◌∙◌, subst, arith, true≢false, get_or, filter}
use Rattle.std.specs.Cmp.{IsStrictWeakOrder}
use Rattle.std.specs.List.Sorted.{IsSortedBy, IsStableBy, ties}
use Rattle.std.proofs.lemmas.List.Sorted.{sorted_far}
use Rattle.api_sort.specs.Sorting.{inserted, sorted_by}

module _ {X : Type 0} (lt : X → X → Bool) (o : IsStrictWeakOrder lt) where
  -- nothing of a list comes before an element, and nothing before what stands in front of it
  abbrev Above : X → List X → Type 0
  Above x [] = Unit {0}
  Above x (y ∷ ys) = (lt y x ≡ false) × Above x ys

  abbrev Up : List X → Type 0
  Up [] = Unit {0}
  Up (x ∷ xs) = Above x xs × Up xs

  above_of : (x : X) (xs : List X) → ((k : ℕ) → k < length xs → lt (get_or xs k x) x ≡ false) → Above x xs
  above_of x [] h = tt
  above_of x (y ∷ ys) h = (h 0 (omega arith), above_of x ys (λ k p. h (suc k) (omega arith)))

  up_of : (xs : List X) → ((i j : ℕ) (d : X) → i ≤ j → j < length xs → lt (get_or xs j d) (get_or xs i d) ≡ false) → Up xs
  up_of [] h = tt
  up_of (x ∷ xs) h = (above_of x xs (λ k p. h 0 (suc k) x (omega arith) (omega arith)), up_of xs (λ i j d p q. h (suc i) (suc j) d (omega arith) (omega arith)))

  itself : (x : X) → lt x x ≡ false
  itself x = by (lt x x) refl
    where
      by : (b : Bool) → lt x x ≡ b → lt x x ≡ false
      by true e = o.one_way x x e
      by false e = e

  tie : (x y : X) → lt x y ≡ false → lt y x ≡ false → ties lt x y ≡ true
  tie x y p q = (λ i. not (p i) && not (q i))

  -- the first that is kept of those above an element
  kept_above : (t : X → Bool) (x : X) (ys : List X) (w : X) (rest : List X) → Above x ys → filter t ys ≡ w ∷ rest → lt w x ≡ false
  kept_above t x [] w rest a h = cc
  kept_above t x (y ∷ ys) w rest a h = by (t y) refl (kept_above t x ys w rest a.1)
    where
      by : (b : Bool) → t y ≡ b → (filter t ys ≡ w ∷ rest → lt w x ≡ false) → lt w x ≡ false
      by true e next = let same : y ∷ filter t ys ≡ w ∷ rest = sym (ap (λ (b : Bool). cond b (y ∷ filter t ys) (filter t ys)) e) ∙ h in let is : y ≡ w = cc in subst (λ (z : X). lt z x ≡ false) is a.0
      by false e next = next (sym (ap (λ (b : Bool). cond b (y ∷ filter t ys) (filter t ys)) e) ∙ h)

  kept_first : (x y : X) (ys : List X) → ties lt x y ≡ true → filter (ties lt x) (y ∷ ys) ≡ y ∷ filter (ties lt x) ys
  kept_first x y ys e = ap (λ (b : Bool). cond b (y ∷ filter (ties lt x) ys) (filter (ties lt x) ys)) e

  same_rest : (b : Bool) (y : X) (us vs : List X) → cond b (y ∷ us) us ≡ cond b (y ∷ vs) vs → us ≡ vs
  same_rest true y us vs h = cc
  same_rest false y us vs h = h

  -- no first: one of the two has what the other has not
  none_first : (y : X) (ys : List X) → filter (ties lt y) (y ∷ ys) ≡ [] → (us vs : List X) → us ≡ vs
  none_first y ys h us vs = let e : filter (ties lt y) (y ∷ ys) ≡ y ∷ filter (ties lt y) ys = kept_first y y ys (tie y y (itself y) (itself y)) in cc

  same_order : (ys zs : List X) → Up ys → Up zs → ((x : X) → filter (ties lt x) ys ≡ filter (ties lt x) zs) → ys ≡ zs
  same_order [] [] u v h = refl
  same_order [] (z ∷ zs) u v h = none_first z zs (sym (h z)) [] (z ∷ zs)
  same_order (y ∷ ys) [] u v h = none_first y ys (h y) (y ∷ ys) []
  same_order (y ∷ ys) (z ∷ zs) u v h =
      let one : filter (ties lt y) (y ∷ ys) ≡ y ∷ filter (ties lt y) ys = kept_first y y ys (tie y y (itself y) (itself y)) in
      let other : filter (ties lt z) (z ∷ zs) ≡ z ∷ filter (ties lt z) zs = kept_first z z zs (tie z z (itself z) (itself z)) in
      let below : lt y z ≡ false = kept_above (ties lt y) z (z ∷ zs) y (filter (ties lt y) ys) (itself z, v.0) (sym (h y) ∙ one) in
      let above : lt z y ≡ false = kept_above (ties lt z) y (y ∷ ys) z (filter (ties lt z) zs) (itself y, u.0) (h z ∙ other) in
      let both : filter (ties lt y) (z ∷ zs) ≡ z ∷ filter (ties lt y) zs = kept_first y z zs (tie y z below above) in
      let all : y ∷ filter (ties lt y) ys ≡ z ∷ filter (ties lt y) zs = sym one ∙ (h y ∙ both) in
      let same : y ≡ z = cc in
      let rest : ys ≡ zs = same_order ys zs u.1 v.1 (λ x. same_rest (ties lt x y) y (filter (ties lt x) ys) (filter (ties lt x) zs) (h x ∙ ap (λ (w : X). cond (ties lt x w) (w ∷ filter (ties lt x) zs) (filter (ties lt x) zs)) (sym same))) in
      cc

  -- insertion keeps the order
  above_inserted : (x new : X) (ys : List X) → lt new x ≡ false → Above x ys → Above x (inserted lt new ys)
  above_inserted x new [] h a = (h, tt)
  above_inserted x new (y ∷ ys) h a =
      elim (lt y new) as (λ b. Above x (cond b (y ∷ inserted lt new ys) (new ∷ y ∷ ys))) [ true ↦ (a.0, above_inserted x new ys h a.1) | false ↦ (h, a) ]

  above_all : (new y : X) (ys : List X) → lt y new ≡ false → Above y ys → Above new ys
  above_all new y [] h a = tt
  above_all new y (z ∷ zs) h a = (o.chain z y new a.0 h, above_all new y zs h a.1)

  up_inserted : (new : X) (ys : List X) → Up ys → Up (inserted lt new ys)
  up_inserted new [] u = (tt, tt)
  up_inserted new (y ∷ ys) u = by (lt y new) refl (up_inserted new ys u.1)
    where
      by : (b : Bool) → lt y new ≡ b → Up (inserted lt new ys) → Up (cond b (y ∷ inserted lt new ys) (new ∷ y ∷ ys))
      by true e next = (above_inserted y new ys (o.one_way y new e) u.0, next)
      by false e next = ((e, above_all new y ys e u.0), u)

  up_sorted : (xs : List X) → Up (sorted_by lt xs)
  up_sorted [] = tt
  up_sorted (x ∷ xs) = up_inserted x (sorted_by lt xs) (up_sorted xs)

  -- insertion keeps those that tie in their order
  two_kept : (x y : X) (l : List X) (a b : Bool) → (a ≡ true → b ≡ true → Unit {0} → cond b (y ∷ cond a (x ∷ l) l) (cond a (x ∷ l) l) ≡ cond a (x ∷ cond b (y ∷ l) l) (cond b (y ∷ l) l)) → cond b (y ∷ cond a (x ∷ l) l) (cond a (x ∷ l) l) ≡ cond a (x ∷ cond b (y ∷ l) l) (cond b (y ∷ l) l)
  two_kept x y l true true h = h refl refl tt
  two_kept x y l true false h = refl
  two_kept x y l false true h = refl
  two_kept x y l false false h = refl

  part : (x y : X) (a b : Bool) → lt x y ≡ a → lt y x ≡ b → ties lt x y ≡ true → (lt x y ≡ false) × (lt y x ≡ false)
  part x y true b p q h = absurd (true≢false (sym h ∙ ap (λ (c : Bool). not c && not (lt y x)) p))
  part x y false true p q h = absurd (true≢false (sym h ∙ (λ i. not (p i) && not (q i))))
  part x y false false p q h = (p, q)

  no_third : (x y z : X) → lt y x ≡ true → ties lt z x ≡ true → ties lt z y ≡ true → ⊥
  no_third x y z h p q = true≢false (sym h ∙ o.chain y z x (part z y _ _ refl refl q).1 (part z x _ _ refl refl p).0)

  flip : (x y z : X) (l : List X) → lt y x ≡ true → cond (ties lt z y) (y ∷ cond (ties lt z x) (x ∷ l) l) (cond (ties lt z x) (x ∷ l) l) ≡ cond (ties lt z x) (x ∷ cond (ties lt z y) (y ∷ l) l) (cond (ties lt z y) (y ∷ l) l)
  flip x y z l h = two_kept x y l (ties lt z x) (ties lt z y) (λ p q u. absurd (no_third x y z h p q))

  stable_inserted : (z new : X) (ys : List X) → filter (ties lt z) (inserted lt new ys) ≡ filter (ties lt z) (new ∷ ys)
  stable_inserted z new [] = refl
  stable_inserted z new (y ∷ ys) = by (lt y new) refl (stable_inserted z new ys)
    where
      by : (b : Bool) → lt y new ≡ b → filter (ties lt z) (inserted lt new ys) ≡ filter (ties lt z) (new ∷ ys) → filter (ties lt z) (cond b (y ∷ inserted lt new ys) (new ∷ y ∷ ys)) ≡ filter (ties lt z) (new ∷ y ∷ ys)
      by true e next = ap (λ (l : List X). cond (ties lt z y) (y ∷ l) l) next ∙ flip new y z (filter (ties lt z) ys) e
      by false e next = refl

  stable_sorted : (z : X) (xs : List X) → filter (ties lt z) (sorted_by lt xs) ≡ filter (ties lt z) xs
  stable_sorted z [] = refl
  stable_sorted z (x ∷ xs) = stable_inserted z x (sorted_by lt xs) ∙ ap (λ (l : List X). cond (ties lt z x) (x ∷ l) l) (stable_sorted z xs)

  pub sorted_is : (xs ys : List X) → IsSortedBy lt ys → IsStableBy lt xs ys → ys ≡ sorted_by lt xs
  sorted_is xs ys sorted stable = same_order ys (sorted_by lt xs) (up_of ys (sorted_far lt o ys sorted)) (up_sorted xs) (λ x. stable x ∙ sym (stable_sorted x xs))
