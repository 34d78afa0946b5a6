-- What stands above a class, by the table and by its parents.
use Rattle.std.proofs.Common.{◌≡◌, ℕ, zero, suc, ◌<◌, ◌≤◌, Bool, true, false, ◌||◌, eqb, ltb, List, [], ◌∷◌, get_or, map, sym, refl, ap, ◌∙◌, ◌⊎◌, inl, inr, subst, arith, All}
use Rattle.std.specs.List.{list_all, flat_map, range_with_len}
use Rattle.std.proofs.Math.ListN.{get_or-eq_default}
use Rattle.std.proofs.lemmas.Bool.{eqb-true, eq-eqb, false≢true, cases_lt, le-ltb}
use Rattle.std.proofs.lemmas.List.Folds.{list_any-append, list_all_at}
use Rattle.std.proofs.lemmas.List.FromFn.{get_or-map-range_with_len}
use Rattle.pl_types.specs.Classes.{class_table, class_row, no_class, full_name, short_name, parents_of, lineage_of, lineage_within, class_is_below, has, Descends, itself, by_parent}

-- a true choice is one of its sides
either : (a b : Bool) → (a || b) ≡ true → (a ≡ true) ⊎ (b ≡ true)
either true b h = inl refl
either false b h = inr h

or_left : (a b : Bool) → a ≡ true → (a || b) ≡ true
or_left a b h = ap (λ x. x || b) h

or_right : (a b : Bool) → b ≡ true → (a || b) ≡ true
or_right true b h = refl
or_right false b h = h

-- an element of lists joined end to end is in one of them, and the other way round
in_one : (f : ℕ → List ℕ) (xs : List ℕ) (b : ℕ) → has (flat_map f xs) b ≡ true → (x : ℕ) × (has xs x ≡ true) × (has (f x) b ≡ true)
in_one f [] b h = absurd (false≢true h)
in_one f (y ∷ xs) b h =
    elim (either (has (f y) b) (has (flat_map f xs) b) (sym (list_any-append (λ z. eqb z b) (f y) (flat_map f xs)) ∙ h)) [
      | inl k ↦ (y, or_left (eqb y y) (has xs y) (eq-eqb y y refl), k)
      | inr k ↦ let r = in_one f xs b k in (r.0, or_right (eqb y r.0) (has xs r.0) r.1, r.2)
    ]

in_all : (f : ℕ → List ℕ) (xs : List ℕ) (x b : ℕ) → has xs x ≡ true → has (f x) b ≡ true → has (flat_map f xs) b ≡ true
in_all f [] x b h k = absurd (false≢true h)
in_all f (y ∷ xs) x b h k =
    list_any-append (λ z. eqb z b) (f y) (flat_map f xs) ∙ (elim (either (eqb y x) (has xs x) h) [
      | inl e ↦ or_left (has (f y) b) (has (flat_map f xs) b) (ap (λ z. has (f z) b) (eqb-true y x e) ∙ k)
      | inr e ↦ or_right (has (f y) b) (has (flat_map f xs) b) (in_all f xs x b e k)
    ])

sound : (n a b : ℕ) → has (lineage_within n a) b ≡ true → Descends a b
sound zero a b h =
    elim (either (eqb a b) false h) [
      | inl e ↦ let P : ℕ → Type 0 = λ z. Descends a z in subst P (eqb-true a b e) itself
      | inr e ↦ absurd (false≢true e)
    ]
sound (suc n) a b h =
    elim (either (eqb a b) (has (flat_map (lineage_within n) (parents_of a)) b) h) [
      | inl e ↦ let P : ℕ → Type 0 = λ z. Descends a z in subst P (eqb-true a b e) itself
      | inr e ↦ let r = in_one (lineage_within n) (parents_of a) b e in by_parent r.1 (sound n r.0 b r.2)
    ]

-- a number past the table has no parents
parents-past : (a : ℕ) → 57 ≤ a → parents_of a ≡ []
unfolding parents_of class_row class_table
parents-past a h = ap (λ r. r.parents) (get_or-eq_default class_table no_class h)

lines : map lineage_of (range_with_len 0 57) ≡ map (λ a. a ∷ flat_map lineage_of (parents_of a)) (range_with_len 0 57)
unfolding lineage_of parents_of class_row class_table
lines = refl

lineage-past : (a : ℕ) → parents_of a ≡ [] → lineage_of a ≡ a ∷ flat_map lineage_of (parents_of a)
unfolding lineage_of
lineage-past a e = ap (λ ps. a ∷ flat_map (lineage_within 4) ps) e ∙ sym (ap (λ ps. a ∷ flat_map (lineage_within 5) ps) e)

pub lineage_line : (a : ℕ) → lineage_of a ≡ a ∷ flat_map lineage_of (parents_of a)
lineage_line a =
    elim (cases_lt a 57) [
      | inl h ↦ sym (get_or-map-range_with_len lineage_of 0 57 a a [] h (omega arith)) ∙ ap (λ xs. get_or xs a []) lines ∙ get_or-map-range_with_len (λ z. z ∷ flat_map lineage_of (parents_of z)) 0 57 a a [] h (omega arith)
      | inr h ↦ lineage-past a (parents-past a h)
    ]

pub complete : {a b : ℕ} → Descends a b → class_is_below a b ≡ true
unfolding class_is_below
complete (itself {a}) = ap (λ xs. has xs a) (lineage_line a) ∙ or_left (eqb a a) _ (eq-eqb a a refl)
complete (by_parent {a} {parent} {b} p d) =
    ap (λ xs. has xs b) (lineage_line a) ∙ or_right (eqb a b) _ (in_all lineage_of (parents_of a) parent b p (complete d))

pub descends_from : (a b : ℕ) → class_is_below a b ≡ true → Descends a b
unfolding class_is_below lineage_of
descends_from a b h = sound 5 a b h

pub descends_on : {a b c : ℕ} → Descends a b → Descends b c → Descends a c
descends_on itself e = e
descends_on (by_parent p d) e = by_parent p (descends_on d e)

-- a number past the table stands below itself alone
pub below-past : (a b : ℕ) → 57 ≤ a → class_is_below a b ≡ (eqb a b || false)
unfolding class_is_below
below-past a b h = ap (λ xs. has xs b) (lineage_line a ∙ ap (λ ps. a ∷ flat_map lineage_of ps) (parents-past a h))

earlier_test : map (λ a. list_all (λ p. ltb p a) (parents_of a)) (range_with_len 0 57) ≡ map (λ a. true) (range_with_len 0 57)
unfolding parents_of class_row class_table
earlier_test = refl

earlier_all : (a : ℕ) → a < 57 → list_all (λ p. ltb p a) (parents_of a) ≡ true
earlier_all a h = sym (get_or-map-range_with_len (λ z. list_all (λ p. ltb p z) (parents_of z)) 0 57 a a true h (omega arith)) ∙ ap (λ xs. get_or xs a true) earlier_test ∙ get_or-map-range_with_len (λ z. true) 0 57 a a true h (omega arith)

each_below : (a : ℕ) (xs : List ℕ) → list_all (λ p. ltb p a) xs ≡ true → All (λ p. p < a) xs
each_below a xs e k d h = elim (cases_lt (get_or xs k d) a) [
  | inl l ↦ l
  | inr g ↦ absurd (false≢true (sym (list_all_at (λ p. ltb p a) xs k d h (le-ltb (get_or xs k d) a g)) ∙ e))
]

pub parents_earlier : (a : ℕ) → All (λ p. p < a) (parents_of a)
parents_earlier a = elim (cases_lt a 57) [
  | inl h ↦ each_below a (parents_of a) (earlier_all a h)
  | inr h ↦ each_below a (parents_of a) (ap (λ ps. list_all (λ p. ltb p a) ps) (parents-past a h))
]

pub descends_iff : (answer : Bool) (a b : ℕ) → answer ≡ class_is_below a b → (answer ≡ true → Descends a b) × (Descends a b → answer ≡ true)
descends_iff answer a b e = (λ h. descends_from a b (sym e ∙ h), λ d. e ∙ complete d)

pub in_line : (answer : Bool) (a b : ℕ) (xs : List ℕ) → xs ≡ lineage_of a → answer ≡ has xs b → answer ≡ class_is_below a b
unfolding class_is_below
in_line answer a b xs e h = h ∙ ap (λ ys. has ys b) e

or_false : (b : Bool) → b ≡ (b || false)
or_false true = refl
or_false false = refl

pub alone : (a b : ℕ) → 57 ≤ a → eqb a b ≡ class_is_below a b
alone a b h = or_false (eqb a b) ∙ sym (below-past a b h)

-- nor has it names
pub full-past : (a : ℕ) → 57 ≤ a → [] ≡ full_name a
unfolding full_name class_row class_table
full-past a h = sym (ap (λ r. r.full) (get_or-eq_default class_table no_class h))

pub short-past : (a : ℕ) → 57 ≤ a → [] ≡ short_name a
unfolding short_name class_row class_table
short-past a h = sym (ap (λ r. r.short) (get_or-eq_default class_table no_class h))
