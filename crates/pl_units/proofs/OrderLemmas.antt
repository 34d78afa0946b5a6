-- The order of texts by their units: what the comparison of lists answers, in the words of `ComesBefore`.
use Rattle.std.proofs.Common.{◌≡◌, ◌↔◌, ℕ, ◌<◌, inl, inr, List, [], ◌∷◌, ◌++◌, refl, ap, sym, ◌∙◌, subst, arith}
use Rattle.std.specs.declared.cmp.Ordering.{Ordering}
use Rattle.std.specs.declared.cmp.Ordering.TheVariants.{Less, Equal, Greater}
use Rattle.std.specs.Cmp.Lexicographic.{slice_cmp}
use Rattle.std.specs.Ordering.{nat_cmp, ordering_then, ordering_reverse}
use Rattle.std.proofs.lemmas.Bool.{cases_order}
use Rattle.std.proofs.lemmas.Bool.Decides.{nat_tests}
use Rattle.std.proofs.lemmas.Cmp.{nat_list_cmp_total}
use Rattle.pl_units.specs.Order.{ComesBefore, shorter, smaller}

units_equal : (x y : ℕ) → x ≡ y → nat_cmp x y ≡ Equal
units_equal x y e = grind (arith, nat_tests)

units_less : (x y : ℕ) → x < y → nat_cmp x y ≡ Less
units_less x y l = grind (arith, nat_tests)

units_greater : (x y : ℕ) → y < x → nat_cmp x y ≡ Greater
units_greater x y l = grind (arith, nat_tests)

-- what the first units say of two texts that begin with them
at_first : (x y : ℕ) (xs ys : List ℕ) (first : Ordering) → nat_cmp x y ≡ first → slice_cmp nat_cmp (x ∷ xs) (y ∷ ys) ≡ ordering_then first (slice_cmp nat_cmp xs ys)
at_first x y xs ys first e = ap (λ o. ordering_then o (slice_cmp nat_cmp xs ys)) e

pub same_when_equal : (a b : List ℕ) → slice_cmp nat_cmp a b ≡ Equal → a ≡ b
same_when_equal [] [] e = refl
same_when_equal [] (y ∷ ys) e = cc
same_when_equal (x ∷ xs) [] e = cc
same_when_equal (x ∷ xs) (y ∷ ys) e = elim (cases_order x y) [
  | inl same ↦
      let rest = same_when_equal xs ys (sym (at_first x y xs ys Equal (units_equal x y same)) ∙ e) in
      cc
  | inr unlike ↦ elim unlike [
    | inl l ↦ let first = sym (at_first x y xs ys Less (units_less x y l)) ∙ e in cc
    | inr g ↦ let first = sym (at_first x y xs ys Greater (units_greater x y g)) ∙ e in cc
  ]
]

pub equal_when_same : (a b : List ℕ) → a ≡ b → slice_cmp nat_cmp a b ≡ Equal
equal_when_same a b e = subst (λ (t : List ℕ). slice_cmp nat_cmp a t ≡ Equal) e (itself a)
  where
    itself : (text : List ℕ) → slice_cmp nat_cmp text text ≡ Equal
    itself [] = refl
    itself (unit ∷ rest) = at_first unit unit rest rest Equal (units_equal unit unit refl) ∙ itself rest

after_unit : (unit other : ℕ) (a b : List ℕ) → unit ≡ other → ComesBefore a b → ComesBefore (unit ∷ a) (other ∷ b)
after_unit unit other a b same before = subst (λ (u : ℕ). ComesBefore (unit ∷ a) (u ∷ b)) same (onto a b before)
  where
    onto : (c d : List ℕ) → ComesBefore c d → ComesBefore (unit ∷ c) (unit ∷ d)
    onto _ _ (shorter text next rest) = shorter (unit ∷ text) next rest
    onto _ _ (smaller common next late rest late_rest l) = smaller (unit ∷ common) next late rest late_rest l

pub before_when_less : (a b : List ℕ) → slice_cmp nat_cmp a b ≡ Less → ComesBefore a b
before_when_less [] [] e = cc
before_when_less [] (y ∷ ys) e = shorter [] y ys
before_when_less (x ∷ xs) [] e = cc
before_when_less (x ∷ xs) (y ∷ ys) e = elim (cases_order x y) [
  | inl same ↦ after_unit x y xs ys same (before_when_less xs ys (sym (at_first x y xs ys Equal (units_equal x y same)) ∙ e))
  | inr unlike ↦ elim unlike [
    | inl l ↦ smaller [] x y xs ys l
    | inr g ↦ let first = sym (at_first x y xs ys Greater (units_greater x y g)) ∙ e in cc
  ]
]

pub less_when_before : (a b : List ℕ) → ComesBefore a b → slice_cmp nat_cmp a b ≡ Less
less_when_before _ _ (shorter text unit rest) = longer text
  where
    longer : (t : List ℕ) → slice_cmp nat_cmp t (t ++ unit ∷ rest) ≡ Less
    longer [] = refl
    longer (u ∷ us) = at_first u u us (us ++ unit ∷ rest) Equal (units_equal u u refl) ∙ longer us
less_when_before _ _ (smaller common unit other rest other_rest l) = differing common
  where
    differing : (t : List ℕ) → slice_cmp nat_cmp (t ++ unit ∷ rest) (t ++ other ∷ other_rest) ≡ Less
    differing [] = at_first unit other rest other_rest Less (units_less unit other l)
    differing (u ∷ us) = at_first u u (us ++ unit ∷ rest) (us ++ other ∷ other_rest) Equal (units_equal u u refl) ∙ differing us

-- the answers of a comparison
pub less_is : (a b : List ℕ) (r : Ordering) → r ≡ slice_cmp nat_cmp a b → (r ≡ Less) ↔ ComesBefore a b
less_is a b r e = (λ l. before_when_less a b (sym e ∙ l), λ h. e ∙ less_when_before a b h)

pub equal_is : (a b : List ℕ) (r : Ordering) → r ≡ slice_cmp nat_cmp a b → (r ≡ Equal) ↔ (a ≡ b)
equal_is a b r e = (λ l. same_when_equal a b (sym e ∙ l), λ h. e ∙ equal_when_same a b h)

turned : (a b : List ℕ) (r : Ordering) → slice_cmp nat_cmp a b ≡ r → slice_cmp nat_cmp b a ≡ ordering_reverse r
turned a b r e = nat_list_cmp_total.antisymm b a ∙ ap ordering_reverse e

pub greater_is : (a b : List ℕ) (r : Ordering) → r ≡ slice_cmp nat_cmp a b → (r ≡ Greater) ↔ ComesBefore b a
greater_is a b r e =
    (λ g. before_when_less b a (turned a b Greater (sym e ∙ g)), λ h. e ∙ turned b a Less (less_when_before b a h))
